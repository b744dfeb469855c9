-- From the rules that a value keeps to its table, and from the first broken one to the answer.
use Rattle.std.proofs.Common.{◌≡◌, ◌<◌, ◌≤◌, ℕ, zero, suc, ℤ, pos, negsuc, int_le, unsigned_abs, List, [], ◌∷◌, ◌++◌, map, drop, length, Contains, All, Bool, true, false, not, ◌&&◌, ◌==◌, get_or, Option, None, Some, Ok, Err, Result, refl, sym, ap, ◌∙◌, subst, arith, ⊎_elim}
use Rattle.std.specs.Prelude.{flat_map, ◌≢◌}
use Rattle.std.specs.List.{AllZip, list_all}
use Rattle.std.proofs.lemmas.Bool.{leb-true}
use Rattle.std.proofs.lemmas.List.Elements.{All-nil, All-cons, All-append, All-map, Contains-get_or}
use Rattle.std.specs.List.Sorted.{IsStrictlyIncreasing}
use Rattle.serde_json.specs.Data.{Data}
use Rattle.kf_frac.specs.Fractions.{limit}
use Rattle.kf_value.specs.Targets.{Item, target_value_text}
use Rattle.kf_gain.specs.declared.table.Action.{Action}
use Rattle.kf_gain.specs.declared.error.TableError.{TableError}
use Rattle.kf_gain.specs.declared.error.TableError.TheVariants as broken
use Rattle.kf_gain.specs.Gains.{TableTree}
use Rattle.kf_gain.specs.Shapes.{IsTableShape}
use Rattle.kf_json.specs.Json.{json_of, members, at_place, text_of, whole_of, is_whole}
use Rattle.kf_json.specs.Rules.{are_distinct, first_broken}
use Rattle.kf_gain.specs.Tables.{over_at, rest_at, actions_at, gains_at, value_texts, narrow, is_narrow, form_rules, value_rules, IsTableOf, IsTable}
use Rattle.kf_gain.specs.Reading.{IsRead, IsActionIn, IsAnswerFor}
use Rattle.kf_gain.proofs.Entries.{contains_cases, contains_none, split_and}
use Rattle.kf_gain.specs.Forms.{form_1, form_2, form_3, form_4, form_5, form_6, some_action, all_known, all_once, action_names, fault_in}

-- ---- the first broken rule

kept : (rule : Bool × TableError) (rules : List (Bool × TableError)) → first_broken (rule ∷ rules) None ≡ None → (rule.0 ≡ true) × (first_broken rules None ≡ None)
kept (true, e) rules h = (refl, h)
kept (false, e) rules h = absurd (cc)

broken_before : (rules : List (Bool × TableError)) (next : Option TableError) (e : TableError) → first_broken rules None ≡ Some e → first_broken rules next ≡ Some e
broken_before [] next e h = absurd (cc)
broken_before ((true, f) ∷ rules) next e h = broken_before rules next e h
broken_before ((false, f) ∷ rules) next e h = h

-- these rules are kept
abbrev pub AreKept : List (Bool × TableError) → Type 0
AreKept [] = Unit
AreKept (rule ∷ rules) = (rule.0 ≡ true) × AreKept rules

pub breaks : (front : List (Bool × TableError)) (rule : Bool × TableError) (rules : List (Bool × TableError)) → AreKept front → rule.0 ≡ false
    → Some rule.1 ≡ first_broken (front ++ rule ∷ rules) None
breaks [] (b, e) rules all is = rw is refl
breaks ((b, e) ∷ front) rule rules (here, all) is = rw here (breaks front rule rules all is)

none_before : (rules : List (Bool × TableError)) (next : Option TableError) → first_broken rules None ≡ None → first_broken rules next ≡ next
none_before [] next h = refl
none_before ((true, f) ∷ rules) next h = none_before rules next h
none_before ((false, f) ∷ rules) next h = absurd (cc)

module _ (items : List Item) (d : Data) where
  pub fault_form : (e : TableError) → first_broken (form_rules d) None ≡ Some e → fault_in items d ≡ Some e
  fault_form e is = broken_before (form_rules d) (first_broken (value_rules items d) None) e is

  module _ (formed : first_broken (form_rules d) None ≡ None) where
    after : fault_in items d ≡ first_broken (value_rules items d) None
    after = none_before (form_rules d) (first_broken (value_rules items d) None) formed

    pub fault_unknown : all_known items d ≡ false → fault_in items d ≡ Some broken.Unknown
    fault_unknown other = after ∙ ap (λ b. first_broken ((b, broken.Unknown) ∷ (all_once d, broken.Twice) ∷ []) None) other

    pub fault_twice : all_known items d ≡ true → all_once d ≡ false → fault_in items d ≡ Some broken.Twice
    fault_twice known other =
        after ∙ ap (λ b. first_broken ((b, broken.Unknown) ∷ (all_once d, broken.Twice) ∷ []) None) known
        ∙ ap (λ b. first_broken ((b, broken.Twice) ∷ []) None) other

    pub fault_none : all_known items d ≡ true → all_once d ≡ true → fault_in items d ≡ None
    fault_none known once =
        after ∙ ap (λ b. first_broken ((b, broken.Unknown) ∷ (all_once d, broken.Twice) ∷ []) None) known
        ∙ ap (λ b. first_broken ((b, broken.Twice) ∷ []) None) once

-- ---- the answer

-- what the answer is for what was read
abbrev pub judged : List Item → Result TableTree TableError → Option Data → Type 0
judged items r found = elim found [ None ↦ r ≡ Err broken.Json | Some d ↦ IsAnswerFor items d (fault_in items d) r ]

module _ (items : List Item) (bytes : List ℕ) where
  pub answer_json : json_of bytes ≡ None → IsTable items bytes (Err broken.Json)
  answer_json is = subst (judged items (Err broken.Json)) (sym is) refl

  pub answer_fault : (d : Data) (e : TableError) → json_of bytes ≡ Some d → fault_in items d ≡ Some e → IsTable items bytes (Err e)
  answer_fault d e is fault = subst (judged items (Err e)) (sym is) (subst (λ f. IsAnswerFor items d f (Err e)) (sym fault) refl)

  pub answer_table : (d : Data) (t : TableTree) → json_of bytes ≡ Some d → fault_in items d ≡ None → IsTableOf items d t → IsTable items bytes (Ok t)
  answer_table d t is none table = subst (judged items (Ok t)) (sym is) (subst (λ f. IsAnswerFor items d f (Ok t)) (sym none) table)

-- ---- the table, where all rules are kept

within_limit : (z : ℤ) → is_narrow z ≡ true → unsigned_abs z ≤ limit
within_limit z is = let small = leb-true (unsigned_abs z) 1000000000 is in omega (arith, small)

pub pos_abs : (z : ℤ) → int_le (pos 1) z ≡ true → pos (unsigned_abs z) ≡ z
pos_abs (pos n) h = refl
pos_abs (negsuc n) h = absurd (cc)

some_abs : (z : ℤ) → int_le (pos 1) z ≡ true → 0 < unsigned_abs z
some_abs (pos zero) h = absurd (cc)
some_abs (pos (suc n)) h = omega arith
some_abs (negsuc n) h = absurd (cc)

abbrev narrow_gain : Data → Bool
narrow_gain g = is_narrow (whole_of (at_place 1 g))

-- a named gain is narrow
gain_within : (gs : List Data) → list_all narrow_gain gs ≡ true → (t : List ℕ) (z : ℤ) → Contains {X = List ℕ × ℤ} (map (λ g. (text_of (at_place 0 g), whole_of (at_place 1 g))) gs) (t, z) → unsigned_abs z ≤ limit
gain_within [] all t z h = absurd (contains_none (t, z) h)
gain_within (g ∷ gs) all t z h =
    let both = split_and (narrow_gain g) (list_all narrow_gain gs) all in
    ⊎_elim
    (λ (same : (text_of (at_place 0 g), whole_of (at_place 1 g)) ≡ (t, z)). subst (λ y. unsigned_abs y ≤ limit) (ap (λ p. p.1) same) (within_limit (whole_of (at_place 1 g)) both.0))
    (λ (later : Contains {X = List ℕ × ℤ} (map (λ g. (text_of (at_place 0 g), whole_of (at_place 1 g))) gs) (t, z)). gain_within gs both.1 t z later)
    (contains_cases (text_of (at_place 0 g), whole_of (at_place 1 g)) (map (λ g. (text_of (at_place 0 g), whole_of (at_place 1 g))) gs) (t, z) h)

module _ (items : List Item) where
  actions_made : (ds : List Data) (made : List Action) → AllZip (IsRead items) ds made → list_all (λ a. are_distinct (value_texts a)) ds ≡ true → AllZip (IsActionIn items) ds made
  actions_made [] [] all once = tt
  actions_made [] (a ∷ made) all once = absurd all
  actions_made (d ∷ ds) [] all once = absurd all
  actions_made (d ∷ ds) (a ∷ made) (is, all) once =
      let both = split_and (are_distinct (value_texts d)) (list_all (λ a. are_distinct (value_texts a)) ds) once in
      (record { name = is.name; ascending = is.ascending both.0; gains = is.gains }, actions_made ds made all both.1)

  all_ascending : (ds : List Data) (made : List Action) → AllZip (IsActionIn items) ds made → All (λ (a : Action). IsStrictlyIncreasing (map (λ e. e.value) a.gains)) made
  all_ascending [] [] all = All-nil (λ (a : Action). IsStrictlyIncreasing (map (λ e. e.value) a.gains))
  all_ascending [] (a ∷ made) all = absurd all
  all_ascending (d ∷ ds) [] all = absurd all
  all_ascending (d ∷ ds) (a ∷ made) (is, all) = All-cons (λ (a : Action). IsStrictlyIncreasing (map (λ e. e.value) a.gains)) a made is.ascending (all_ascending ds made all)

  own_within : (d : Data) (a : Action) → IsActionIn items d a → list_all narrow_gain (members (gains_at d)) ≡ true → All (λ z. unsigned_abs z ≤ limit) (map (λ e. e.gain) a.gains)
  own_within d a is small =
      All-map (λ z. unsigned_abs z ≤ limit) (λ e. e.gain) a.gains
      (λ k e within. let here = get_or a.gains k e in
      gain_within (members (gains_at d)) small (target_value_text items here.value) here.gain ((is.gains here).0 (Contains-get_or a.gains k e within)).1)

  all_within : (ds : List Data) (made : List Action) → AllZip (IsActionIn items) ds made → list_all (λ a. list_all narrow_gain (members (gains_at a))) ds ≡ true
      → All (λ z. unsigned_abs z ≤ limit) (flat_map (λ a. map (λ e. e.gain) a.gains) made)
  all_within [] [] all small = All-nil (λ z. unsigned_abs z ≤ limit)
  all_within [] (a ∷ made) all small = absurd all
  all_within (d ∷ ds) [] all small = absurd all
  all_within (d ∷ ds) (a ∷ made) (is, all) small =
      let both = split_and (list_all narrow_gain (members (gains_at d))) (list_all (λ a. list_all narrow_gain (members (gains_at a))) ds) small in
      All-append (λ z. unsigned_abs z ≤ limit) (map (λ e. e.gain) a.gains) (flat_map (λ a. map (λ e. e.gain) a.gains) made) (own_within d a is both.0) (all_within ds made all both.1)

  pub some_made : (ds : List Data) (made : List Action) → AllZip (IsActionIn items) ds made → not (length ds == 0) ≡ true → made ≢ []
  some_made [] made all some = absurd (cc)
  some_made (d ∷ ds) [] all some = absurd all
  some_made (d ∷ ds) (a ∷ made) all some = λ none. absurd (cc)

  module _ (d : Data) (formed : first_broken (form_rules d) None ≡ None) where
    from_2 : first_broken (drop 2 (form_rules d)) None ≡ None
    from_2 = (kept (form_2 d, broken.Form 2) (drop 2 (form_rules d)) (kept (form_1 d, broken.Form 1) (drop 1 (form_rules d)) formed).1).1

    from_3 : (form_3 d ≡ true) × (first_broken (drop 3 (form_rules d)) None ≡ None)
    from_3 = kept (form_3 d, broken.Form 3) (drop 3 (form_rules d)) from_2

    from_6 : first_broken (drop 6 (form_rules d)) None ≡ None
    from_6 = (kept (form_6 d, broken.Form 6) (drop 6 (form_rules d)) (kept (form_5 d, broken.Form 5) (drop 5 (form_rules d)) (kept (form_4 d, broken.Form 4) (drop 4 (form_rules d)) from_3.1).1).1).1

    from_7 : (narrow d ≡ true) × (first_broken (drop 7 (form_rules d)) None ≡ None)
    from_7 = kept (narrow d, broken.Wide) (drop 7 (form_rules d)) from_6

    from_8 : some_action d ≡ true
    from_8 = (kept (some_action d, broken.Empty) [] from_7.1).0

    over_some : int_le (pos 1) (whole_of (over_at d)) ≡ true
    over_some = (split_and (is_whole (over_at d) && is_whole (rest_at d)) (int_le (pos 1) (whole_of (over_at d))) from_3.0).1

    abbrev gains_narrow : Bool
    gains_narrow = list_all (λ a. list_all narrow_gain (members (gains_at a))) (members (actions_at d))

    numbers_narrow : ((is_narrow (whole_of (over_at d)) && is_narrow (whole_of (rest_at d))) ≡ true) × (gains_narrow ≡ true)
    numbers_narrow = split_and (is_narrow (whole_of (over_at d)) && is_narrow (whole_of (rest_at d))) gains_narrow from_7.0

    module _ (over : ℕ) (rest : ℤ) (made : List Action) (once : all_once d ≡ true) (all : AllZip (IsRead items) (members (actions_at d)) made)
        (over_is : over ≡ unsigned_abs (whole_of (over_at d))) (rest_is : rest ≡ whole_of (rest_at d)) where
      acted : AllZip (IsActionIn items) (members (actions_at d)) made
      acted = actions_made (members (actions_at d)) made all
          (split_and (list_all (λ a. are_distinct (value_texts a)) (members (actions_at d))) (are_distinct (action_names d)) once).0

      pub table_told : IsTableOf items d (record { over = over; rest = rest; actions = made })
      table_told = record { over = ap pos over_is ∙ pos_abs (whole_of (over_at d)) over_some; rest = rest_is; actions = acted }

      pub table_shaped : IsTableShape (record { over = over; rest = rest; actions = made })
      table_shaped =
          let small = split_and (is_narrow (whole_of (over_at d))) (is_narrow (whole_of (rest_at d))) numbers_narrow.0 in
          record {
            positive = subst (λ n. 0 < n) (sym over_is) (some_abs (whole_of (over_at d)) over_some);
            narrow = subst (λ n. n ≤ limit) (sym over_is) (within_limit (whole_of (over_at d)) small.0);
            some = some_made (members (actions_at d)) made acted from_8;
            ascending = all_ascending (members (actions_at d)) made acted;
            within = All-cons (λ z. unsigned_abs z ≤ limit) rest (flat_map (λ a. map (λ e. e.gain) a.gains) made)
                (subst (λ z. unsigned_abs z ≤ limit) (sym rest_is) (within_limit (whole_of (rest_at d)) small.1)) (all_within (members (actions_at d)) made acted numbers_narrow.1);
          }

-- ---- from no fault back to the rules

-- what a table's existence needs of them
pub record Kept (d : Data) : Type 0 where
  pub over : int_le (pos 1) (whole_of (over_at d)) ≡ true
  pub some : some_action d ≡ true
  pub once : list_all (λ a. are_distinct (value_texts a)) (members (actions_at d)) ≡ true

none_after : (rules : List (Bool × TableError)) (next : Option TableError) → first_broken rules next ≡ None → (first_broken rules None ≡ None) × (next ≡ None)
none_after [] next h = (refl, h)
none_after ((true, f) ∷ rules) next h = none_after rules next h
none_after ((false, f) ∷ rules) next h = absurd (cc)

pub rules_kept : (items : List Item) (d : Data) → fault_in items d ≡ None → Kept d
rules_kept items d none =
    let both = none_after (form_rules d) (first_broken (value_rules items d) None) none in
    let known = kept (all_known items d, broken.Unknown) ((all_once d, broken.Twice) ∷ []) both.1 in
    let once = kept (all_once d, broken.Twice) [] known.1 in
    record {
      over = over_some items d both.0;
      some = from_8 items d both.0;
      once = (split_and (list_all (λ a. are_distinct (value_texts a)) (members (actions_at d))) (are_distinct (action_names d)) once.0).0;
    }
