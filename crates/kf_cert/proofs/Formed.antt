-- From the rules that a JSON value keeps to the certificate that it says.
use Rattle.std.proofs.Common.{◌≡◌, ◌<◌, ◌≤◌, ℕ, ℤ, pos, negsuc, int_le, nat_le, unsigned_abs, List, [], ◌∷◌, ◌++◌, map, take, length, All, Bool, true, false, not, ◌&&◌, ◌||◌, ◌==◌, Option, None, Some, Ok, Err, Result, IfOk, refl, sym, ap, ◌∙◌, subst, arith}
use Rattle.std.specs.Prelude.{flat_map, ◌≢◌, if◌then◌else◌}
use Rattle.std.specs.List.{list_all}
use Rattle.std.proofs.lemmas.Bool.{leb-true}
use Rattle.std.proofs.lemmas.List.Elements.{All-nil, All-cons, All-append}
use Rattle.serde_json.specs.Data.{Data}
use Rattle.kf_frac.specs.Fractions.{limit}
use Rattle.kf_frac.proofs.LowestTerms.{reduced_den_positive}
use Rattle.kf_json.specs.Json.{json_of, members, at_place, is_list, is_text, text_of}
use Rattle.kf_json.specs.Rules.{is_name, first_broken}
use Rattle.kf_gain.proofs.Entries.{split_and}
use Rattle.kf_gain.specs.Tables.{over_at, rest_at, actions_at, name_at, gains_at}
use Rattle.kf_cert.specs.Numbers.{whole_said, numerator_said, denominator_said, fraction_said}
use Rattle.kf_cert.specs.Certificates.{CertTree, Yes, Named, No, says_yes, has_entry_keys, is_fraction, has_rows, is_whole_number, is_size, is_entry, has_entries, is_gain, is_named_action, has_numbers, has_actions, is_narrow, is_narrow_fraction, is_narrow_whole, is_narrow_entry, is_narrow_matrix, are_narrow_entries, is_narrow_table, rules, named_said, table_said, cert_said, names_in_order, cert_of}
use Rattle.kf_cert.specs.Parts.{row_said, entry_said, action_said, yes_said, cert_in}
use Rattle.kf_cert.specs.Reading.{gain_said, reads_fraction, reads_row, reads_matrix, reads_whole, reads_entry, reads_named, reads_yes, reads_gain, reads_action, reads_table, reads_cert}
use Rattle.kf_cert.specs.Views.{cert_tree, IsSound, IsSoundNamed, IsSoundTable}
use Rattle.kf_cert.specs.Laws.{ReadSound}
use Rattle.kf_cert.specs.declared.cert.Cert.{Cert}
use Rattle.kf_cert.specs.declared.cert.CertAction.{CertAction}
use Rattle.kf_cert.specs.declared.cert.CertError.{CertError}
use Rattle.kf_cert.specs.declared.cert.CertError.TheVariants as broken
use Rattle.kf_cert.proofs.Digits.{positive}
use Rattle.kf_cert.specs.Forms.{matrix_at, rows_at, columns_at, entries_at, form_1, form_2, form_3, has_its_matrix, form_4, form_5, form_6, is_narrow_yes, narrow, is_row, is_narrow_action}
use Rattle.kf_cert.specs.Order.{form_7}

-- ---- the first broken rule

kept : (holds : Bool) (e : CertError) (later : Option CertError) → (if holds then later else Some e) ≡ None → (holds ≡ true) × (later ≡ None)
kept true e later h = (refl, h)
kept false e later h = absurd (cc)

broken_front : (front more : List (Bool × CertError)) (e : CertError) → first_broken front None ≡ Some e → first_broken (front ++ more) None ≡ Some e
broken_front [] more e h = absurd (cc)
broken_front ((true, f) ∷ front) more e h = broken_front front more e h
broken_front ((false, f) ∷ front) more e h = h

-- the rules of form
pub record Formed (d : Data) : Type 0 where
  pub one : form_1 d ≡ true
  pub two : form_2 d ≡ true
  pub three : form_3 d ≡ true
  pub four : form_4 d ≡ true
  pub five : form_5 d ≡ true
  pub six : form_6 d ≡ true

-- those before the last one are kept, and what is left
module _ (d : Data) (last : List (Bool × CertError)) where
  abbrev six_then : List (Bool × CertError)
  six_then =
      (form_1 d, broken.Form 1) ∷ (form_2 d, broken.Form 2) ∷ (form_3 d, broken.Form 3) ∷ (form_4 d, broken.Form 4)
      ∷ (form_5 d, broken.Form 5) ∷ (form_6 d, broken.Form 6) ∷ last

  formed_then : first_broken six_then None ≡ None → Formed d × (first_broken last None ≡ None)
  formed_then h =
      let a = kept (form_1 d) (broken.Form 1) _ h in
      let b = kept (form_2 d) (broken.Form 2) _ a.1 in
      let c = kept (form_3 d) (broken.Form 3) _ b.1 in
      let e = kept (form_4 d) (broken.Form 4) _ c.1 in
      let f = kept (form_5 d) (broken.Form 5) _ e.1 in
      let g = kept (form_6 d) (broken.Form 6) _ f.1 in
      (record { one = a.0; two = b.0; three = c.0; four = e.0; five = f.0; six = g.0 }, g.1)

  past_six : Formed d → first_broken six_then None ≡ first_broken last None
  past_six f = λ i. first_broken
      ((f.one i, broken.Form 1) ∷ (f.two i, broken.Form 2) ∷ (f.three i, broken.Form 3) ∷ (f.four i, broken.Form 4)
      ∷ (f.five i, broken.Form 5) ∷ (f.six i, broken.Form 6) ∷ last) None

pub formed : (d : Data) → first_broken (take 6 (rules d)) None ≡ None → Formed d
formed d h = (formed_then d [] h).0

-- ---- what is read is narrow

all_alike : {X : Type 0} (p q r : X → Bool) → ((x : X) → p x ≡ true → q x ≡ r x) → (xs : List X) → list_all p xs ≡ true → list_all q xs ≡ list_all r xs
all_alike p q r same [] all = refl
all_alike p q r same (x ∷ xs) all = let parts = split_and (p x) _ all in λ i. same x parts.0 i && all_alike p q r same xs parts.1 i

fraction_alike : (d : Data) → is_fraction d ≡ true → reads_fraction d ≡ is_narrow_fraction d
fraction_alike d is = ap (λ b. b && is_narrow_fraction d) (split_and (is_text d) _ is).1

row_alike : (row : Data) → is_row row ≡ true → reads_row row ≡ list_all is_narrow_fraction (members row)
row_alike row is = all_alike is_fraction reads_fraction is_narrow_fraction fraction_alike (members row) (split_and (is_list row) _ is).1

whole_alike : (d : Data) → is_whole_number d ≡ true → reads_whole d ≡ is_narrow_whole d
whole_alike d is = ap (λ b. b && is_narrow_whole d) (split_and (is_text d) _ is).1

size_alike : (d : Data) → is_size d ≡ true → reads_whole d ≡ is_narrow_whole d
size_alike d is = whole_alike d (split_and (is_whole_number d) _ is).0

entry_alike : (e : Data) → is_entry e ≡ true → reads_entry e ≡ is_narrow_entry e
entry_alike e is =
    let three = split_and (length (members e) == 3) _ (split_and (is_list e) _ is).1 in
    let row = split_and (is_size (at_place 0 e)) _ three.1 in
    let column = split_and (is_size (at_place 1 e)) _ row.1 in
    λ i. size_alike (at_place 0 e) row.0 i && (size_alike (at_place 1 e) column.0 i && fraction_alike (at_place 2 e) column.1 i)

gain_alike : (g : Data) → is_gain g ≡ true → reads_gain g ≡ is_narrow_whole (at_place 1 g)
gain_alike g is =
    let pair = split_and (length (members g) == 2) _ (split_and (is_list g) _ is).1 in
    whole_alike (at_place 1 g) (split_and (is_text (at_place 0 g)) _ pair.1).1

action_alike : (a : Data) → is_named_action a ≡ true → reads_action a ≡ is_narrow_action a
action_alike a is =
    all_alike is_gain reads_gain (λ g. is_narrow_whole (at_place 1 g)) gain_alike (members (gains_at a))
    (split_and (is_list (gains_at a)) _ (split_and (is_name (name_at a)) _ is).1).1

-- what the rules say of a yes, and of a no
module _ (d : Data) (f : Formed d) where
  matrix_formed : says_yes d ≡ true → has_its_matrix d ≡ true
  matrix_formed agreed = subst (λ b. (not b || has_its_matrix d) ≡ true) agreed f.four

  rows_formed : says_yes d ≡ true → has_entry_keys d ≡ false → list_all is_row (members (matrix_at d)) ≡ true
  rows_formed agreed other =
      (split_and (is_list (matrix_at d)) _ (subst (λ b. (if b then has_entries d else has_rows d) ≡ true) other (matrix_formed agreed))).1

  entries_formed : says_yes d ≡ true → has_entry_keys d ≡ true → has_entries d ≡ true
  entries_formed agreed named = subst (λ b. (if b then has_entries d else has_rows d) ≡ true) named (matrix_formed agreed)

  table_formed : says_yes d ≡ false → (has_numbers d ≡ true) × (has_actions d ≡ true)
  table_formed other = split_and (has_numbers d) _ (subst (λ b. (b || (has_numbers d && has_actions d)) ≡ true) other f.five)

  actions_formed : says_yes d ≡ false → list_all is_named_action (members (actions_at d)) ≡ true
  actions_formed other = subst (λ b. (b || list_all is_named_action (members (actions_at d))) ≡ true) other f.six

  table_alike : says_yes d ≡ false → reads_table d ≡ is_narrow_table d
  table_alike other =
      let numbers = (table_formed other).0 in
      let over = split_and (is_whole_number (over_at d)) _ numbers in
      let rest = split_and (is_whole_number (rest_at d)) _ over.1 in
      λ i. whole_alike (over_at d) over.0 i && (whole_alike (rest_at d) rest.0 i
      && all_alike is_named_action reads_action is_narrow_action action_alike (members (actions_at d)) (actions_formed other) i)

  matrix_alike : says_yes d ≡ true → has_entry_keys d ≡ false → reads_matrix d ≡ is_narrow_matrix d
  matrix_alike agreed other =
      all_alike is_row reads_row (λ row. list_all is_narrow_fraction (members row)) row_alike (members (matrix_at d)) (rows_formed agreed other)

  named_alike : says_yes d ≡ true → has_entry_keys d ≡ true → reads_named d ≡ are_narrow_entries d
  named_alike agreed named =
      let rows = split_and (is_size (rows_at d)) _ (entries_formed agreed named) in
      let columns = split_and (is_size (columns_at d)) _ rows.1 in
      let entries = split_and (is_list (entries_at d)) _ columns.1 in
      λ i. size_alike (rows_at d) rows.0 i && (size_alike (columns_at d) columns.0 i
      && all_alike is_entry reads_entry is_narrow_entry entry_alike (members (entries_at d)) entries.1 i)

  yes_alike : says_yes d ≡ true → reads_yes d ≡ is_narrow_yes d
  yes_alike agreed = by_keys (has_entry_keys d) refl
    where
      by_keys : (b : Bool) → has_entry_keys d ≡ b → (if b then reads_named d else reads_matrix d) ≡ (if b then are_narrow_entries d else is_narrow_matrix d)
      by_keys true named = named_alike agreed named
      by_keys false other = matrix_alike agreed other

  pub reads_narrow : reads_cert d ≡ narrow d
  reads_narrow = by_verdict (says_yes d) refl
    where
      by_verdict : (b : Bool) → says_yes d ≡ b → (if b then reads_yes d else reads_table d) ≡ (if b then is_narrow_yes d else is_narrow_table d)
      by_verdict true agreed = yes_alike agreed
      by_verdict false other = table_alike other

-- ---- the answer

abbrev answer : Data → Option CertError → Result CertTree CertError
answer d fault = elim fault [ None ↦ Ok (cert_said d) | Some e ↦ Err e ]

abbrev answer_of : Option Data → Result CertTree CertError
answer_of found = elim found [ None ↦ Err broken.Json | Some d ↦ cert_in d ]

abbrev last_two : Data → List (Bool × CertError)
last_two d = (narrow d, broken.Wide) ∷ (form_7 d, broken.Form 7) ∷ []

pub cert_told : (bytes : List ℕ) (d : Data) → json_of bytes ≡ Some d → cert_in d ≡ cert_of bytes
cert_told bytes d is = sym (ap answer_of is)

module _ (d : Data) where
  pub cert_misformed : (e : CertError) → first_broken (take 6 (rules d)) None ≡ Some e → cert_in d ≡ Err e
  cert_misformed e fault = ap (answer d) (broken_front (take 6 (rules d)) (last_two d) e fault)

  module _ (f : Formed d) where
    of_formed : (b : Bool) → reads_cert d ≡ b → cert_in d ≡ answer d (first_broken ((b, broken.Wide) ∷ (form_7 d, broken.Form 7) ∷ []) None)
    of_formed b reads =
        ap (answer d) (past_six d (last_two d) f)
        ∙ ap (λ n. answer d (first_broken ((n, broken.Wide) ∷ (form_7 d, broken.Form 7) ∷ []) None)) (sym (reads_narrow d f) ∙ reads)

    of_narrow : reads_cert d ≡ true → (b : Bool) → form_7 d ≡ b → cert_in d ≡ answer d (first_broken ((b, broken.Form 7) ∷ []) None)
    of_narrow reads b ordered = of_formed true reads ∙ ap (λ n. answer d (first_broken ((n, broken.Form 7) ∷ []) None)) ordered

    pub cert_read : reads_cert d ≡ true → names_in_order (cert_said d) ≡ true → cert_in d ≡ Ok (cert_said d)
    cert_read reads ordered = of_narrow reads true ordered

    pub cert_unordered : reads_cert d ≡ true → names_in_order (cert_said d) ≡ false → cert_in d ≡ Err (broken.Form 7)
    cert_unordered reads other = of_narrow reads false other

    pub cert_wide : reads_cert d ≡ false → cert_in d ≡ Err broken.Wide
    cert_wide wide = of_formed false wide

-- ---- what is read has its bounds

all_made : {X Y : Type 0} (P : Y → Type 0) (f : X → Y) (p : X → Bool) → ((x : X) → p x ≡ true → P (f x)) → (xs : List X) → list_all p xs ≡ true → All P (map f xs)
all_made P f p shows [] all = All-nil P
all_made P f p shows (x ∷ xs) all = let parts = split_and (p x) _ all in All-cons P (f x) (map f xs) (shows x parts.0) (all_made P f p shows xs parts.1)

fraction_sound : (d : Data) → is_fraction d ≡ true → 0 < (fraction_said (text_of d)).den
fraction_sound d is =
    let some = positive (text_of d) (split_and (is_text d) _ is).1 in
    reduced_den_positive (numerator_said (text_of d)) (denominator_said (text_of d)) (omega (arith, some))

row_sound : (row : Data) → is_row row ≡ true → All (λ f. 0 < f.den) (row_said row)
row_sound row is = all_made (λ f. 0 < f.den) (λ f. fraction_said (text_of f)) is_fraction fraction_sound (members row) (split_and (is_list row) _ is).1

entry_sound : (e : Data) → is_entry e ≡ true → 0 < (entry_said e).value.den
entry_sound e is =
    let three = split_and (length (members e) == 3) _ (split_and (is_list e) _ is).1 in
    fraction_sound (at_place 2 e) (split_and (is_size (at_place 1 e)) _ (split_and (is_size (at_place 0 e)) _ three.1).1).1

within : (z : ℤ) → is_narrow z ≡ true → unsigned_abs z ≤ limit
within z is = leb-true (unsigned_abs z) limit is

above_zero : (z : ℤ) → int_le (pos 1) z ≡ true → 0 < unsigned_abs z
above_zero (pos n) is = let some = leb-true 1 n is in omega (arith, some)
above_zero (negsuc n) is = absurd (cc)

abbrev InLimit : ℤ → Type 0
InLimit z = unsigned_abs z ≤ limit

gains_within : (gs : List Data) → list_all (λ g. is_narrow_whole (at_place 1 g)) gs ≡ true → All InLimit (map (λ e. e.gain) (map gain_said gs))
gains_within [] all = All-nil InLimit
gains_within (g ∷ gs) all =
    let parts = split_and (is_narrow_whole (at_place 1 g)) _ all in
    All-cons InLimit (whole_said (text_of (at_place 1 g))) (map (λ e. e.gain) (map gain_said gs)) (within (whole_said (text_of (at_place 1 g))) parts.0) (gains_within gs parts.1)

abbrev gains_of : CertAction → List ℤ
gains_of a = map (λ e. e.gain) a.gains

actions_within : (ds : List Data) → list_all is_narrow_action ds ≡ true → All InLimit (flat_map gains_of (map action_said ds))
actions_within [] all = All-nil InLimit
actions_within (a ∷ ds) all =
    let parts = split_and (is_narrow_action a) _ all in
    All-append InLimit (gains_of (action_said a)) (flat_map gains_of (map action_said ds)) (gains_within (members (gains_at a)) parts.0) (actions_within ds parts.1)

not_empty : (ds : List Data) → nat_le 1 (length ds) ≡ true → map action_said ds ≢ []
not_empty [] some none = absurd (cc)
not_empty (d ∷ ds) some none = absurd (cc)

module _ (d : Data) (f : Formed d) (slim : narrow d ≡ true) where
  table_sound : says_yes d ≡ false → IsSoundTable (table_said d)
  table_sound other =
      let slim_table : is_narrow_table d ≡ true = subst (λ b. (if b then is_narrow_yes d else is_narrow_table d) ≡ true) other slim in
      let numbers = split_and (is_whole_number (rest_at d)) _ (split_and (is_whole_number (over_at d)) _ (table_formed d f other).0).1 in
      let some = split_and (nat_le 1 (length (members (actions_at d)))) _ (split_and (is_list (actions_at d)) _ (table_formed d f other).1).1 in
      let over = split_and (is_narrow_whole (over_at d)) _ slim_table in
      let rest = split_and (is_narrow_whole (rest_at d)) _ over.1 in
      record {
        positive = above_zero (whole_said (text_of (over_at d))) numbers.1;
        narrow = within (whole_said (text_of (over_at d))) over.0;
        some = not_empty (members (actions_at d)) some.0;
        within = All-cons InLimit (whole_said (text_of (rest_at d))) (flat_map gains_of (map action_said (members (actions_at d))))
            (within (whole_said (text_of (rest_at d))) rest.0) (actions_within (members (actions_at d)) rest.1);
      }

  named_sound : says_yes d ≡ true → has_entry_keys d ≡ true → names_in_order (Named (named_said d)) ≡ true → IsSoundNamed (named_said d)
  named_sound agreed named ordered =
      let columns = split_and (is_size (columns_at d)) _ (split_and (is_size (rows_at d)) _ (entries_formed d f agreed named)).1 in
      record {
        ordered = ordered;
        positive = all_made (λ e. 0 < e.value.den) entry_said is_entry entry_sound (members (entries_at d)) (split_and (is_list (entries_at d)) _ columns.1).1;
      }

  -- what a yes says where it has the keys of named entries, and where it hasn't
  abbrev said_by_keys : Bool → CertTree
  said_by_keys b = if b then Named (named_said d) else Yes (map row_said (members (matrix_at d)))

  yes_sound : says_yes d ≡ true → names_in_order (yes_said d) ≡ true → IsSound (yes_said d)
  yes_sound agreed = by_keys (has_entry_keys d) refl
    where
      by_keys : (b : Bool) → has_entry_keys d ≡ b → names_in_order (said_by_keys b) ≡ true → IsSound (said_by_keys b)
      by_keys true named ordered = named_sound agreed named ordered
      by_keys false other ordered = all_made (λ row. All (λ f. 0 < f.den) row) row_said is_row row_sound (members (matrix_at d)) (rows_formed d f agreed other)

  -- what a value says by its verdict
  abbrev said_by_verdict : Bool → CertTree
  said_by_verdict b = if b then yes_said d else No (table_said d)

  said_sound : names_in_order (cert_said d) ≡ true → IsSound (cert_said d)
  said_sound = by_verdict (says_yes d) refl
    where
      by_verdict : (b : Bool) → says_yes d ≡ b → names_in_order (said_by_verdict b) ≡ true → IsSound (said_by_verdict b)
      by_verdict true agreed ordered = yes_sound agreed ordered
      by_verdict false other ordered = table_sound other

pub read_sound : ReadSound
read_sound bytes c = by_json (json_of bytes)
  where
    by_fault : (d : Data) (fault : Option CertError) → first_broken (rules d) None ≡ fault → answer d fault ≡ Ok c → IsSound c
    by_fault d None none is =
        let all = formed_then d (last_two d) none in
        let slim = kept (narrow d) broken.Wide (first_broken ((form_7 d, broken.Form 7) ∷ []) None) all.1 in
        let ordered = kept (form_7 d) (broken.Form 7) None slim.1 in
        let same : cert_said d ≡ c = (cc) in
        subst IsSound same (said_sound d all.0 slim.0 ordered.0)
    by_fault d (Some e) some is = absurd (cc)

    by_json : (found : Option Data) → answer_of found ≡ Ok c → IsSound c
    by_json None is = absurd (cc)
    by_json (Some d) is = by_fault d (first_broken (rules d) None) refl is

pub sound_read : (bytes : List ℕ) (r : Result Cert CertError) → IfOk r (λ c. cert_of bytes ≡ Ok (cert_tree c)) → IfOk r (λ c. IsSound (cert_tree c))
sound_read bytes (Ok c) is = read_sound bytes (cert_tree c) is
sound_read bytes (Err e) is = tt
