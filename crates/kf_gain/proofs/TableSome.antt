-- All bytes have an answer as a gain table, and a table has an action.
use Rattle.std.proofs.Common.{◌≡◌, ◌<◌, ℕ, ℤ, List, [], ◌∷◌, map, length, Contains, Bool, true, false, not, ◌||◌, Option, None, Some, Ok, Err, Result, unsigned_abs, refl, sym, ap, ◌∙◌, arith, ⊎_elim}
use Rattle.std.specs.Prelude.{◌≢◌, bytes_eq, if◌then◌else◌}
use Rattle.std.specs.List.{AllZip, list_all, list_any}
use Rattle.std.proofs.lemmas.Slice.Eq.{bytes_eq-Decides}
use Rattle.serde_json.specs.Data.{Data}
use Rattle.kf_value.specs.Targets.{Item, target_values, target_value_text}
use Rattle.kf_hyper.proofs.Rising.{increasing}
use Rattle.kf_gain.specs.declared.table.Action.{Action}
use Rattle.kf_gain.specs.declared.table.GainEntry.{GainEntry}
use Rattle.kf_gain.specs.declared.error.TableError.{TableError}
use Rattle.kf_gain.specs.declared.error.TableError.TheVariants as broken
use Rattle.kf_gain.specs.Gains.{TableTree}
use Rattle.kf_json.specs.Json.{json_of, members, at_place, text_of, whole_of}
use Rattle.kf_json.specs.Rules.{are_distinct}
use Rattle.kf_gain.specs.Tables.{actions_at, gains_at, name_at, over_at, rest_at, value_texts, IsTableOf}
use Rattle.kf_gain.specs.Reading.{IsActionIn, IsAnswerFor}
use Rattle.kf_gain.specs.Forms.{fault_in}
use Rattle.kf_gain.specs.TableLaws.{SomeTable, TablesHaveActions}
use Rattle.kf_gain.proofs.Entries.{contains_cases, contains_first, contains_later, contains_none, split_and}
use Rattle.kf_gain.proofs.Judging.{judged, rules_kept, pos_abs, some_made}
use Rattle.kf_gain.proofs.Sought.{Found, Sought, found}

-- ---- the gain that an action names for a text

abbrev gain_text : Data → List ℕ
gain_text g = text_of (at_place 0 g)

abbrev pair : Data → List ℕ × ℤ
pair g = (gain_text g, whole_of (at_place 1 g))

abbrev gain_of : List Data → List ℕ → Option ℤ
gain_of [] t = None
gain_of (g ∷ gs) t = if bytes_eq (gain_text g) t then Some (whole_of (at_place 1 g)) else gain_of gs t

module _ (t : List ℕ) (z : ℤ) where
  sought_named : (gs : List Data) → gain_of gs t ≡ Some z → Contains (map pair gs) (t, z)
  sought_named [] is = absurd (cc)
  sought_named (g ∷ gs) is = by (bytes_eq (gain_text g) t) refl is (sought_named gs)
    where
      by : (b : Bool) → bytes_eq (gain_text g) t ≡ b → (if b then Some (whole_of (at_place 1 g)) else gain_of gs t) ≡ Some z → (gain_of gs t ≡ Some z → Contains (map pair gs) (t, z))
          → Contains (map pair (g ∷ gs)) (t, z)
      by true same is rest =
          let text : gain_text g ≡ t = (bytes_eq-Decides (gain_text g) t).0 same in
          let gain : whole_of (at_place 1 g) ≡ z = (cc) in
          contains_first (pair g) (map pair gs) (t, z) (λ i. (text i, gain i))
      by false apart is rest = contains_later (pair g) (map pair gs) (t, z) (rest is)

  neither : (a b : Bool) → not (a || b) ≡ true → (a ≡ false) × (not b ≡ true)
  neither true b h = absurd (cc)
  neither false b h = (refl, h)

  other_text : (x : List ℕ) (gs : List Data) → not (list_any (bytes_eq x) (map gain_text gs)) ≡ true → Contains (map pair gs) (t, z) → bytes_eq x t ≡ false
  other_text x [] apart h = absurd (contains_none (t, z) h)
  other_text x (g ∷ gs) apart h =
      let both = neither (bytes_eq x (gain_text g)) (list_any (bytes_eq x) (map gain_text gs)) apart in
      ⊎_elim
      (λ (same : pair g ≡ (t, z)). ap (bytes_eq x) (sym (ap (λ p. p.0) same)) ∙ both.0)
      (λ (later : Contains (map pair gs) (t, z)). other_text x gs both.1 later)
      (contains_cases (pair g) (map pair gs) (t, z) h)

  named_sought : (gs : List Data) → are_distinct (map gain_text gs) ≡ true → Contains (map pair gs) (t, z) → gain_of gs t ≡ Some z
  named_sought [] apart h = absurd (contains_none (t, z) h)
  named_sought (g ∷ gs) apart h =
      let both = split_and (not (list_any (bytes_eq (gain_text g)) (map gain_text gs))) (are_distinct (map gain_text gs)) apart in
      ⊎_elim
      (λ (same : pair g ≡ (t, z)). ap pick ((bytes_eq-Decides (gain_text g) t).1 (ap (λ p. p.0) same)) ∙ ap (λ p. Some p.1) same)
      (λ (later : Contains (map pair gs) (t, z)). ap pick (other_text (gain_text g) gs both.0 later) ∙ named_sought gs both.1 later)
      (contains_cases (pair g) (map pair gs) (t, z) h)
    where
      pick : Bool → Option ℤ
      pick b = if b then Some (whole_of (at_place 1 g)) else gain_of gs t

-- ---- actions and tables

module _ (items : List Item) where
  abbrev seek : Data → ℕ → Option ℤ
  seek d v = gain_of (members (gains_at d)) (target_value_text items v)

  action_made : (d : Data) → are_distinct (value_texts d) ≡ true → (a : Action) × IsActionIn items d a
  action_made d apart = by (found (seek d) 0 (length (target_values items)))
    where
      there : (e : GainEntry) → Sought (seek d) 0 (length (target_values items)) e → (e.value < length (target_values items)) × Contains (map pair (members (gains_at d))) (target_value_text items e.value, e.gain)
      there e (from, to, is) = (omega (arith, to), sought_named (target_value_text items e.value) e.gain (members (gains_at d)) is)

      back : (e : GainEntry) → (e.value < length (target_values items)) × Contains (map pair (members (gains_at d))) (target_value_text items e.value, e.gain) → Sought (seek d) 0 (length (target_values items)) e
      back e (to, named) = (omega arith, omega (arith, to), named_sought (target_value_text items e.value) e.gain (members (gains_at d)) apart named)

      by : Found (seek d) 0 (length (target_values items)) → (a : Action) × IsActionIn items d a
      by f = (
        record { name = text_of (name_at d); gains = f.entries },
        record { name = refl; ascending = increasing 0 (map (λ e. e.value) f.entries) f.rising; gains = λ e. (λ h. there e ((f.all e).0 h), λ h. (f.all e).1 (back e h)) },
      )

  actions_made : (ds : List Data) → list_all (λ a. are_distinct (value_texts a)) ds ≡ true → (made : List Action) × AllZip (IsActionIn items) ds made
  actions_made [] once = ([], tt)
  actions_made (d ∷ ds) once =
      let both = split_and (are_distinct (value_texts d)) (list_all (λ a. are_distinct (value_texts a)) ds) once in
      let first = action_made d both.0 in
      let rest = actions_made ds both.1 in
      (first.0 ∷ rest.0, (first.1, rest.1))

  table_made : (d : Data) → fault_in items d ≡ None → (t : TableTree) × IsTableOf items d t
  table_made d none =
      let kept = rules_kept items d none in
      let made = actions_made (members (actions_at d)) kept.once in (
        record { over = unsigned_abs (whole_of (over_at d)); rest = whole_of (rest_at d); actions = made.0 },
        record { over = pos_abs (whole_of (over_at d)) kept.over; rest = refl; actions = made.1 },
      )

  answered : (d : Data) (f : Option TableError) → fault_in items d ≡ f → (r : Result TableTree TableError) × IsAnswerFor items d f r
  answered d (Some e) is = (Err e, refl)
  answered d None is = let made = table_made d is in (Ok made.0, made.1)

  some_judged : (found : Option Data) → (r : Result TableTree TableError) × judged items r found
  some_judged None = (Err broken.Json, refl)
  some_judged (Some d) = answered d (fault_in items d) refl

  acting : (d : Data) (t : TableTree) (f : Option TableError) → fault_in items d ≡ f → IsAnswerFor items d f (Ok t) → t.actions ≢ []
  acting d t (Some e) fault is = absurd (cc)
  acting d t None none is = some_made items (members (actions_at d)) t.actions is.actions (rules_kept items d none).some

  acting_judged : (t : TableTree) (found : Option Data) → judged items (Ok t) found → t.actions ≢ []
  acting_judged t None is = absurd (cc)
  acting_judged t (Some d) is = acting d t (fault_in items d) refl is

pub some_table : SomeTable
some_table items bytes = some_judged items (json_of bytes)

pub tables_have_actions : TablesHaveActions
tables_have_actions items bytes t is = acting_judged items t (json_of bytes) is
