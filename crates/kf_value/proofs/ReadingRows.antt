-- Rows of values read one by one: the parts of a tuple, and the items of a target.
use Rattle.std.proofs.Common.{◌≡◌, ℕ, zero, suc, ◌+◌, ◌*◌, ◌^◌, ◌<◌, ◌≤◌, false, List, [], ◌∷◌, ◌++◌, length, map, slice_get, Some, None, refl, sym, ap, ◌∙◌, arith}
use Rattle.std.specs.List.{flat_map}
use Rattle.std.proofs.Math.Nat.{mul-le-mul_left}
use Rattle.std.proofs.lemmas.List.{append_assoc}
use Rattle.std.proofs.lemmas.Option.{slice_get_within}
use Rattle.kf_value.specs.Values.{ValueTree, Tuple, Set, parts}
use Rattle.kf_value.specs.Types.{TypeTree, TupleOf, SetOf, type_parts, values, combinations, subsets, count}
use Rattle.kf_value.specs.Sizes.{fault_within, first_fault, HasSize, HasNumber}
use Rattle.kf_value.specs.Texts.{text, separated}
use Rattle.kf_value.specs.Readings.{is_numeric, Stops, row, further}
use Rattle.kf_value.proofs.ByForm.{values-TupleOf, values-SetOf}
use Rattle.kf_value.proofs.Parts.{total, length-choices, regrouped}
use Rattle.kf_value.proofs.Places.{combination_of, mapped_at}
use Rattle.kf_value.proofs.Printing.{tuple_text, set_text}
use Rattle.kf_value.proofs.Sizing.{first_of-None}

-- ---- texts

pub row_more : (v : ValueTree) (vs : List ValueTree) (c : ℕ) (r : List ℕ) → row (v ∷ vs) c r ≡ text v ++ further vs c r
row_more v vs c r = append_assoc (text v) (flat_map (λ u. 44 ∷ 32 ∷ u) (map text vs)) (c ∷ r)

pub further_stops : (vs : List ValueTree) (c : ℕ) (r : List ℕ) → is_numeric c ≡ false → Stops (further vs c r)
further_stops [] c r closes = closes
further_stops (v ∷ vs) c r closes = refl

pub tuple_row : (vs : List ValueTree) (r : List ℕ) → text (Tuple (parts vs)) ++ r ≡ 40 ∷ row vs 41 r
tuple_row vs r = ap (λ t. t ++ r) (tuple_text vs) ∙ ap (λ t. 40 ∷ t) (append_assoc (separated (map text vs)) (41 ∷ []) r)

pub set_row : (vs : List ValueTree) (r : List ℕ) → text (Set (parts vs)) ++ r ≡ 123 ∷ row vs 125 r
set_row vs r = ap (λ t. t ++ r) (set_text vs) ∙ ap (λ t. 123 ∷ t) (append_assoc (separated (map text vs)) (125 ∷ []) r)

-- ---- tuples and sets

pub record TupleText (ts : List TypeTree) (n : ℕ) (r bytes : List ℕ) : Type 0 where
  pub vs : List ValueTree
  pub at : slice_get (combinations (map values ts)) n ≡ Some vs
  pub whole : bytes ≡ 40 ∷ row vs 41 r

pub tuple_read : (ts : List TypeTree) (n : ℕ) (v : ValueTree) (r bytes : List ℕ) → HasNumber (TupleOf (type_parts ts)) v n → bytes ≡ text v ++ r
    → TupleText ts n r bytes
tuple_read ts n v r bytes place whole =
    let found = mapped_at (λ vs. Tuple (parts vs)) (combinations (map values ts)) n v (ap (λ us. slice_get us n) (sym (values-TupleOf ts)) ∙ place) in
    record { vs = found.0; at = found.1; whole = whole ∙ (ap (λ u. text u ++ r) found.2 ∙ tuple_row found.0 r) }

pub record SetText (base : TypeTree) (n : ℕ) (r bytes : List ℕ) : Type 0 where
  pub vs : List ValueTree
  pub at : slice_get (subsets (values base)) n ≡ Some vs
  pub whole : bytes ≡ 123 ∷ row vs 125 r

pub set_read : (base : TypeTree) (n : ℕ) (v : ValueTree) (r bytes : List ℕ) → HasNumber (SetOf base) v n → bytes ≡ text v ++ r → SetText base n r bytes
set_read base n v r bytes place whole =
    let found = mapped_at (λ vs. Set (parts vs)) (subsets (values base)) n v (ap (λ us. slice_get us n) (sym (values-SetOf base)) ∙ place) in
    record { vs = found.0; at = found.1; whole = whole ∙ (ap (λ u. text u ++ r) found.2 ∙ set_row found.0 r) }

-- ---- rows

-- of each row that begins at the start, what is left is the row of the later types' values, and its number is what is missing
pub record RowLeft (types later : List TypeTree) (start left : List ℕ) (n : ℕ) : Type 0 where
  pub sized : first_fault (type_parts later) ≡ None
  pub goes : (m : ℕ) (all : List ValueTree) (r : List ℕ) → slice_get (combinations (map values types)) m ≡ Some all → start ≡ row all 41 r
      → (k : ℕ) × (ws : List ValueTree) × (slice_get (combinations (map values later)) k ≡ Some ws) × (m ≡ n * total later + k) × (left ≡ row ws 41 r)

pub row_start : (types : List TypeTree) (start : List ℕ) → first_fault (type_parts types) ≡ None → RowLeft types types start start 0
row_start types start sized = record {
  sized = sized;
  goes = λ m all r place whole. let same : m ≡ 0 * total types + m = omega arith in (m, all, place, same, whole);
}

pub record RowTurn (t : TypeTree) (later : List TypeTree) (left : List ℕ) (n m : ℕ) (r : List ℕ) : Type 0 where
  pub digit : ℕ
  pub value : ValueTree
  pub others : List ValueTree
  pub rest : ℕ
  pub at : HasNumber t value digit
  pub text_here : left ≡ text value ++ further others 41 r
  pub small : n * count t + digit < 2 ^ 64
  pub place : slice_get (combinations (map values later)) rest ≡ Some others
  pub number : m ≡ (n * count t + digit) * total later + rest

front_small : (x p j m most : ℕ) → m ≡ x * p + j → j < p → m < most → x < most
front_small x p j m most whole below within = let grown : x * 1 ≤ x * p = mul-le-mul_left x (omega arith) in omega arith

-- what a part read from a text is told
abbrev pub Told : TypeTree → List ℕ → ℕ → ℕ → List ℕ → Type 0
Told t left n next after = (k : ℕ) (v : ValueTree) (vs : List ValueTree) (r : List ℕ) → HasNumber t v k → left ≡ text v ++ further vs 41 r
    → n * count t + k < 2 ^ 64 → (next ≡ n * count t + k) × (after ≡ row vs 41 r)

module _ (types : List TypeTree) (fits : total types ≤ 2 ^ 63) (t : TypeTree) (later : List TypeTree) (start left : List ℕ) (n : ℕ)
    (found : RowLeft types (t ∷ later) start left n) where
  pub row_sized : HasSize t
  row_sized = (first_of-None (fault_within 65536 t) (first_fault (type_parts later)) found.sized).0

  pub row_turn : (m : ℕ) (all : List ValueTree) (r : List ℕ) → slice_get (combinations (map values types)) m ≡ Some all → start ≡ row all 41 r
      → RowTurn t later left n m r
  row_turn m all r place whole =
      let here = found.goes m all r place whole in
      let split = combination_of (values t) (map values later) here.0 here.1 here.2 in
      let size = length (combinations (map values later)) in
      let choices : size ≡ total later = length-choices later in
      let within : m < length (combinations (map values types)) = slice_get_within (combinations (map values types)) m all place in
      let all_choices = length-choices types in
      let below : split.1 < size = slice_get_within (combinations (map values later)) split.1 split.3 split.6 in
      let number : m ≡ (n * count t + split.0) * total later + split.1 =
      here.3 ∙ (ap (λ k. n * (count t * total later) + k) split.4 ∙ regrouped n (count t) split.0 (total later) size split.1 choices) in
      let small = front_small (n * count t + split.0) (total later) split.1 m (2 ^ 64) number (omega arith) (omega arith) in
      record {
        digit = split.0;
        value = split.2;
        others = split.3;
        rest = split.1;
        at = split.5;
        text_here = here.4 ∙ (ap (λ ws. row ws 41 r) split.7 ∙ row_more split.2 split.3 41 r);
        small = small;
        place = split.6;
        number = number;
      }

  pub row_step : (next : ℕ) (after : List ℕ) → Told t left n next after → RowLeft types later start after next
  row_step next after told = record {
    sized = (first_of-None (fault_within 65536 t) (first_fault (type_parts later)) found.sized).1;
    goes = λ m all r place whole.
        let turn = row_turn m all r place whole in
        let both = told turn.digit turn.value turn.others r turn.at turn.text_here turn.small in
        (turn.rest, turn.others, turn.place, turn.number ∙ ap (λ x. x * total later + turn.rest) (sym both.0), both.1);
  }

pub empty_row : (k : ℕ) (ws : List ValueTree) → slice_get (combinations []) k ≡ Some ws → (k ≡ 0) × (ws ≡ [])
empty_row zero ws h = let same : ws ≡ [] = (cc) in (refl, same)
empty_row (suc k) ws h = (cc)

pub row_end : (types : List TypeTree) (start left : List ℕ) (n : ℕ) → RowLeft types [] start left n
    → (m : ℕ) (all : List ValueTree) (r : List ℕ) → slice_get (combinations (map values types)) m ≡ Some all → start ≡ row all 41 r
    → (n ≡ m) × (left ≡ 41 ∷ r)
row_end types start left n found m all r place whole =
    let here = found.goes m all r place whole in
    let none = empty_row here.0 here.1 here.2 in
    let number = here.3 in
    let first = none.0 in
    let same : n ≡ m = omega arith in
    (same, here.4 ∙ ap (λ ws. row ws 41 r) none.1)
