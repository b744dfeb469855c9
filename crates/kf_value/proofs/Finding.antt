-- The turns of the loops that find the value with a number.
use Rattle.std.proofs.Common.{◌≡◌, ◌≢◌, ℕ, suc, ◌+◌, ◌-◌, ◌*◌, ◌/◌, ◌%◌, ◌^◌, ◌<◌, ◌≤◌, List, [], ◌∷◌, ◌++◌, length, map, drop, slice_get, Some, None, true, refl, sym, ap, ◌∙◌, subst, arith}
use Rattle.std.specs.Option.{option_map}
use Rattle.std.proofs.Math.Nat.{pow-suc, mul_assoc}
use Rattle.std.proofs.lemmas.List.{append_assoc, map-append, append-nil, drop_all}
use Rattle.kf_value.proofs.Trees.{counts-type_parts}
use Rattle.std.proofs.lemmas.Nat.{div-mul-add, mod-mul-add, div-add-mod', div_below, mod_below}
use Rattle.std.proofs.lemmas.Option.{slice_get-map}
use Rattle.kf_value.specs.declared.value.Value.{Value}
use Rattle.kf_value.specs.Values.{ValueTree, Tuple, Set, parts}
use Rattle.kf_value.specs.Forms.{IsWellFormed}
use Rattle.kf_value.specs.Types.{TypeTree, TupleOf, SetOf, type_parts, values, combinations, subsets, count}
use Rattle.kf_value.specs.Sizes.{fault_within, first_fault, well_formed, HasSize, HasNumber}
use Rattle.kf_value.specs.Views.{value_tree}
use Rattle.kf_value.proofs.Ascending.{length-values, values_well_formed}
use Rattle.kf_value.proofs.ByForm.{values-TupleOf, values-SetOf}
use Rattle.kf_value.proofs.ListLemmas.{each_at}
use Rattle.kf_value.proofs.Parts.{total, length-choices}
use Rattle.kf_value.proofs.Places.{combination_at, subset_with, subset_without}
use Rattle.kf_value.proofs.Sets.{element_at, drop_at}
use Rattle.kf_value.proofs.Sizing.{tuple_sized, some_values, rest_some, first_of-None, product_some}

-- each value of a well-formed type is well formed
pub formed_value : (t : TypeTree) (v : ValueTree) (n : ℕ) → HasNumber t v n → well_formed t ≡ true → IsWellFormed v
formed_value t v n at formed = each_at IsWellFormed (values t) n v (values_well_formed t formed) at

one_more : (done : List Value) (x : Value) (rest : List ValueTree) → map value_tree done ++ value_tree x ∷ rest ≡ map value_tree (done ++ x ∷ []) ++ rest
one_more done x rest =
    sym (append_assoc (map value_tree done) (value_tree x ∷ []) rest) ∙ ap (λ vs. vs ++ rest) (sym (map-append value_tree done (x ∷ [])))

-- ---- the parts of a tuple

pub record PartsFound (types : List TypeTree) (n : ℕ) (later : List TypeTree) (done : List Value) (left weight : ℕ) : Type 0 where
  pub sized : first_fault (type_parts later) ≡ None
  pub weighs : weight ≡ total later
  pub within : left < weight
  pub whole : (rest : List ValueTree) → slice_get (combinations (map values later)) left ≡ Some rest
      → slice_get (combinations (map values types)) n ≡ Some (map value_tree done ++ rest)

pub below_itself : (n m : ℕ) → n < m → n % m ≡ n
below_itself n m below = let start : n ≡ 0 * m + n = omega arith in ap (λ z. z % m) start ∙ mod-mul-add 0 m n below

grouped : (q c p a b : ℕ) → q * (c * p) + (a * p + b) ≡ (q * c + a) * p + b
grouped q c p a b = let same = mul_assoc q c p in let spread : (q * c + a) * p ≡ q * c * p + a * p = omega arith in omega arith

pub find_parts_start : (types : List TypeTree) (n weight : ℕ) → first_fault (type_parts types) ≡ None → n < total types → weight ≡ total types
    → PartsFound types n types [] (n % weight) weight
find_parts_start types n weight sized below weighs =
    let within : n < weight = rw weighs below in
    let same : n % weight ≡ n = below_itself n weight within in
    record {
      sized = sized;
      weighs = weighs;
      within = rw same within;
      whole = λ rest h. ap (slice_get (combinations (map values types))) (sym same) ∙ h;
    }

-- a tuple with a size, and the number of one of its values
pub find_tuple_start : (types : List TypeTree) (n weight : ℕ) → HasSize (TupleOf (type_parts types)) → n < count (TupleOf (type_parts types)) → weight ≡ total types
    → PartsFound types n types [] (n % weight) weight
find_tuple_start types n weight sized below weighs =
    find_parts_start types n weight (tuple_sized types sized).0 (rw (← counts-type_parts types) below) weighs

-- a digit, seen from the whole number
pub digit_is : (n c p : ℕ) → 0 < c → 0 < p → (n % (c * p) / p ≡ n / p % c) × (n % (c * p) % p ≡ n % p)
digit_is n c p some_c some_p =
    let m = c * p in
    let q = n / m in
    let r = n % m in
    let some : 0 < m = product_some c p some_c some_p in
    let below : r < c * p = mod_below n m some in
    let a = r / p in
    let b = r % p in
    let a_below : a < c = div_below r p c some_p below in
    let b_below : b < p = mod_below r p some_p in
    let whole : n ≡ q * (c * p) + r = sym (div-add-mod' n m) in
    let part : r ≡ a * p + b = sym (div-add-mod' r p) in
    let number : n ≡ (q * c + a) * p + b = whole ∙ (ap (λ z. q * (c * p) + z) part ∙ grouped q c p a b) in
    let quotient : n / p ≡ q * c + a = ap (λ z. z / p) number ∙ div-mul-add (q * c + a) p b b_below in
    let digit : n / p % c ≡ a = ap (λ z. z % c) quotient ∙ mod-mul-add q c a a_below in
    let rest : n % p ≡ b = ap (λ z. z % p) number ∙ mod-mul-add (q * c + a) p b b_below in
    (sym digit, sym rest)

module _ (types : List TypeTree) (n weight : ℕ) (t : TypeTree) (later : List TypeTree) (done : List Value)
    (found : PartsFound types n (t ∷ later) done (n % weight) weight) where
  pub find_part_sized : HasSize t
  find_part_sized = (first_of-None (fault_within 65536 t) (first_fault (type_parts later)) found.sized).0

  later_some : 0 < total later
  later_some = rest_some later (first_of-None (fault_within 65536 t) (first_fault (type_parts later)) found.sized).1

  pub find_weight : weight / count t ≡ total later
  find_weight =
      let some = some_values 65536 t find_part_sized in
      let turned : count t * total later ≡ total later * count t + 0 = omega arith in
      ap (λ w. w / count t) (found.weighs ∙ turned) ∙ div-mul-add (total later) (count t) 0 some

  left : ℕ
  left = n % weight

  left_is : left ≡ n % (count t * total later)
  unfolding left
  left_is = ap (λ w. n % w) found.weighs

  below_here : left / total later < count t
  unfolding left
  below_here = div_below (n % weight) (total later) (count t) later_some (subst (λ w. n % weight < w) found.weighs found.within)

  digits_here : (left / total later ≡ n / total later % count t) × (left % total later ≡ n % total later)
  digits_here =
      let some = some_values 65536 t find_part_sized in
      let known = digit_is n (count t) (total later) some later_some in
      (ap (λ l. l / total later) left_is ∙ known.0, ap (λ l. l % total later) left_is ∙ known.1)

  pub find_parts_step : (x : Value) → HasNumber t (value_tree x) (n / total later % count t)
      → PartsFound types n later (done ++ x ∷ []) (n % total later) (total later)
  unfolding left
  find_parts_step x at = record {
    sized = (first_of-None (fault_within 65536 t) (first_fault (type_parts later)) found.sized).1;
    weighs = refl;
    within = mod_below n (total later) later_some;
    whole = λ rest h.
        let size = length-choices later in
        let number = n % weight in
        let at_digit : slice_get (values t) (number / total later) ≡ Some (value_tree x) = ap (slice_get (values t)) digits_here.0 ∙ at in
        let rest_digit : slice_get (combinations (map values later)) (number % total later) ≡ Some rest =
        ap (slice_get (combinations (map values later))) digits_here.1 ∙ h in
        let place : number ≡ number / total later * length (combinations (map values later)) + number % total later =
        sym (div-add-mod' number (total later)) ∙ ap (λ s. number / total later * s + number % total later) (sym size) in
        let first = combination_at (values t) (map values later) (number / total later) (number % total later) number (value_tree x) rest place at_digit rest_digit in
        found.whole (value_tree x ∷ rest) first ∙ ap (λ vs. Some vs) (one_more done x rest);
  }

pub find_parts_end : (types : List TypeTree) (n weight : ℕ) (done : List Value) → PartsFound types n [] done (n % weight) weight
    → slice_get (combinations (map values types)) n ≡ Some (map value_tree done)
find_parts_end types n weight done found =
    let weighs : weight ≡ 1 = found.weighs in
    let within = found.within in
    let first : n % weight ≡ 0 = omega arith in
    found.whole [] (rw first refl) ∙ ap (λ vs. Some vs) (append-nil (map value_tree done))

pub find_tuple_end : (types : List TypeTree) (n weight : ℕ) (done : List Value) → PartsFound types n [] done (n % weight) weight
    → HasNumber (TupleOf (type_parts types)) (Tuple (parts (map value_tree done))) n
find_tuple_end types n weight done found =
    ap (λ us. slice_get us n) (values-TupleOf types)
    ∙ (slice_get-map (λ vs. Tuple (parts vs)) (combinations (map values types)) n ∙ ap (option_map (λ vs. Tuple (parts vs))) (find_parts_end types n weight done found))

-- ---- the elements of a set

pub record ElementsFound (base : TypeTree) (n k : ℕ) (done : List Value) (left : ℕ) : Type 0 where
  pub within : left < 2 ^ (count base - k)
  pub whole : (rest : List ValueTree) → slice_get (subsets (drop k (values base))) left ≡ Some rest
      → slice_get (subsets (values base)) n ≡ Some (map value_tree done ++ rest)

pub find_elements_start : (base : TypeTree) (n : ℕ) → n < count (SetOf base) → ElementsFound base n 0 [] n
find_elements_start base n below = let all : count base - 0 ≡ count base = omega arith in record { within = rw all below; whole = λ rest h. h }

halved : (left m : ℕ) → left < 2 ^ suc m → left / 2 < 2 ^ m
halved left m h = let power = pow-suc 2 m in omega arith

module _ (base : TypeTree) (n k left : ℕ) (done : List Value) (inside : k < count base) (found : ElementsFound base n k done left) where
  half_within : left / 2 < 2 ^ (count base - (k + 1))
  half_within =
      let next : count base - k ≡ suc (count base - (k + 1)) = omega arith in
      halved left (count base - (k + 1)) (rw next at found.within)

  pub find_with : left % 2 ≡ 1 → (x : Value) → HasNumber base (value_tree x) k → ElementsFound base n (k + 1) (done ++ x ∷ []) (left / 2)
  find_with odd x at = record {
    within = half_within;
    whole = λ rest h.
        let place : left ≡ left / 2 * 2 + 1 = omega arith in
        let first = subset_with (value_tree x) (drop (k + 1) (values base)) (left / 2) rest h in
        found.whole (value_tree x ∷ rest) (ap (λ vs. slice_get (subsets vs) left) (drop_at (values base) k (value_tree x) at) ∙ (ap (slice_get (subsets (value_tree x ∷ drop (k + 1) (values base)))) place ∙ first))
        ∙ ap (λ vs. Some vs) (one_more done x rest);
  }

  pub find_without : left % 2 ≢ 1 → ElementsFound base n (k + 1) done (left / 2)
  find_without even = record {
    within = half_within;
    whole = λ rest h.
        let length = length-values base in
        let skipped = element_at (values base) k (omega arith) in
        let place : left ≡ left / 2 * 2 = omega arith in
        let first = subset_without skipped.0 (drop (k + 1) (values base)) (left / 2) rest h in
        found.whole rest (ap (λ vs. slice_get (subsets vs) left) (drop_at (values base) k skipped.0 skipped.1) ∙ (ap (slice_get (subsets (skipped.0 ∷ drop (k + 1) (values base)))) place ∙ first));
  }

pub find_elements_end : (base : TypeTree) (n k left : ℕ) (done : List Value) → count base ≤ k → ElementsFound base n k done left
    → HasNumber (SetOf base) (Set (parts (map value_tree done))) n
find_elements_end base n k left done past found =
    let size = length-values base in
    let used = drop_all k (values base) (omega arith) in
    let none : count base - k ≡ 0 = omega arith in
    let within : left < 2 ^ 0 = rw none at found.within in
    let first : left ≡ 0 = omega arith in
    let whole = found.whole [] (rw (used, first) refl) in
    ap (λ us. slice_get us n) (values-SetOf base)
    ∙ (slice_get-map (λ vs. Set (parts vs)) (subsets (values base)) n
    ∙ (ap (option_map (λ vs. Set (parts vs))) whole ∙ ap (λ vs. Some (Set (parts vs))) (append-nil (map value_tree done))))
