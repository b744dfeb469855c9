-- The place of a value among the values of its type, form by form.
use Rattle.std.proofs.Common.{◌≡◌, ℕ, ℤ, zero, suc, pos, negsuc, ◌<◌, ◌+ℤ◌, ◌-ℤ◌, ◌≤ℤ◌, Bool, true, false, List, [], ◌∷◌, length, map, slice_get, Option, Some, None, refl, sym, ap, ◌∙◌, subst, arith, rules, get_or, zero-add, to_z, of_z, w64}
use mir.Val.{bool_byte}
use Rattle.std.proofs.Math.IntN.{nat_abs}
use Rattle.std.proofs.lemmas.Bool.{and_parts}
use Rattle.std.specs.Prelude.{IfSome, int_le, ◌&&◌, ◌==◌, if◌then◌else◌}
use Rattle.std.specs.Option.{option_map}
use Rattle.std.specs.List.{range_with_len, AllByRecursion as Each}
use Rattle.std.specs.List.Sorted.{IsStrictlySortedBy}
use Rattle.std.proofs.lemmas.Option.{slice_get_within, slice_get-map, slice_get-get_or}
use Rattle.std.proofs.lemmas.List.FromFn.{length-range_with_len, get_or-range_with_len}
use Rattle.std.proofs.lemmas.Int.{ints}
use Rattle.kf_value.specs.declared.value.Value.{Value}
use Rattle.kf_value.specs.declared.value.Value.TheVariants as value
use Rattle.kf_value.specs.declared.value.ValueList.{ValueList}
use Rattle.kf_value.specs.Views.{value_tree}
use Rattle.kf_value.specs.Values.{ValueTree, Truth, Whole, Tuple, Set, parts, parts_list, order}
use Rattle.kf_value.specs.Forms.{IsWellFormed, EachWellFormed}
use Rattle.kf_value.specs.Types.{TypeTree, Boolean, Range, TupleOf, SetOf, type_parts, values, each_values, combinations, subsets, count, counted, in_bounds}
use Rattle.kf_value.specs.Sizes.{crowded, HasSize, IsPlaceIn}
use Rattle.kf_value.specs.declared.ty.TyFault.{TyFault}
use Rattle.kf_value.specs.declared.ty.TyFault.TheVariants.{BadRange}
use Rattle.kf_value.proofs.Ascending.{length-values}
use Rattle.kf_value.proofs.Places.{mapped_at}
use Rattle.kf_value.proofs.Trees.{parts_list-parts, each_values-type_parts, by_form, value_tree-Bool, value_tree-Int, value_tree-Tuple, value_tree-Set}

pub place_below : (t : TypeTree) (v : ValueTree) (r : Option ℕ) → IsPlaceIn (values t) v r → IfSome r (λ n. n < count t)
place_below t v None h = search rules
place_below t v (Some n) h = rw (length-values t) at (slice_get_within (values t) n v h)

pub placed : (t u : TypeTree) (v w : ValueTree) (r : Option ℕ) → t ≡ u → v ≡ w → IsPlaceIn (values t) v r → IsPlaceIn (values u) w r
placed t u v w r type value h = subst (λ x. IsPlaceIn (values x) w r) type (subst (λ y. IsPlaceIn (values t) y r) value h)

-- ---- tuples and sets

mapped_place : {X Y : Type 0} (f : X → Y) → ((x y : X) → f x ≡ f y → x ≡ y) → (xs : List X) (x : X) (r : Option ℕ) → IsPlaceIn xs x r → IsPlaceIn (map f xs) (f x) r
mapped_place f one xs x None h = λ n at. let found = mapped_at f xs n (f x) at in h n (found.1 ∙ ap (λ y. Some y) (sym (one x found.0 found.2)))
mapped_place f one xs x (Some n) h = slice_get-map f xs n ∙ ap (option_map f) h

tuples_apart : (xs ys : List ValueTree) → Tuple (parts xs) ≡ Tuple (parts ys) → xs ≡ ys
tuples_apart xs ys h = let same : parts xs ≡ parts ys = (cc) in sym (parts_list-parts xs) ∙ (ap parts_list same ∙ parts_list-parts ys)

sets_apart : (xs ys : List ValueTree) → Set (parts xs) ≡ Set (parts ys) → xs ≡ ys
sets_apart xs ys h = let same : parts xs ≡ parts ys = (cc) in sym (parts_list-parts xs) ∙ (ap parts_list same ∙ parts_list-parts ys)

pub values-TupleOf : (ts : List TypeTree) → values (TupleOf (type_parts ts)) ≡ map (λ vs. Tuple (parts vs)) (combinations (map values ts))
unfolding values each_values
values-TupleOf ts = ap (λ vss. map (λ vs. Tuple (parts vs)) (combinations vss)) (each_values-type_parts ts)

pub values-SetOf : (base : TypeTree) → values (SetOf base) ≡ map (λ vs. Set (parts vs)) (subsets (values base))
unfolding values
values-SetOf base = refl

pub tuple_place : (ts : List TypeTree) (vs : List ValueTree) (r : Option ℕ) → IsPlaceIn (combinations (map values ts)) vs r
    → IsPlaceIn (values (TupleOf (type_parts ts))) (Tuple (parts vs)) r
tuple_place ts vs r h =
    subst (λ us. IsPlaceIn us (Tuple (parts vs)) r) (sym (values-TupleOf ts)) (mapped_place (λ us. Tuple (parts us)) tuples_apart (combinations (map values ts)) vs r h)

pub set_place : (base : TypeTree) (vs : List ValueTree) (r : Option ℕ) → IsPlaceIn (subsets (values base)) vs r
    → IsPlaceIn (values (SetOf base)) (Set (parts vs)) r
set_place base vs r h =
    subst (λ us. IsPlaceIn us (Set (parts vs)) r) (sym (values-SetOf base)) (mapped_place (λ us. Set (parts us)) sets_apart (subsets (values base)) vs r h)

-- ---- Booleans and whole numbers

pub truth_place : (b : Bool) → slice_get (values Boolean) (bool_byte b) ≡ Some (Truth b)
unfolding values
truth_place false = refl
truth_place true = refl

pub truth_at : (n : ℕ) → n < 2 → slice_get (values Boolean) n ≡ Some (Truth (n == 1))
unfolding values
truth_at zero below = refl
truth_at (suc zero) below = refl
truth_at (suc (suc n)) below = absurd (omega arith)

pub values-Range : (lo hi : ℤ) → values (Range lo hi) ≡ map (λ k. Whole (lo +ℤ pos k)) (range_with_len 0 (counted (hi -ℤ lo)))
unfolding values
values-Range lo hi = refl

range_at : (n k : ℕ) → k < n → slice_get (range_with_len 0 n) k ≡ Some k
range_at n k below =
    let within : k < length (range_with_len 0 n) = rw (length-range_with_len 0 n) below in
    let found : get_or (range_with_len 0 n) k 0 ≡ k = get_or-range_with_len 0 n k 0 below ∙ zero-add k in
    slice_get-get_or (range_with_len 0 n) k 0 within ∙ ap (λ m. Some m) found

pub whole_place : (lo hi : ℤ) (k : ℕ) → k < counted (hi -ℤ lo) → slice_get (values (Range lo hi)) k ≡ Some (Whole (lo +ℤ pos k))
whole_place lo hi k below =
    ap (λ vs. slice_get vs k) (values-Range lo hi)
    ∙ (slice_get-map (λ m. Whole (lo +ℤ pos m)) (range_with_len 0 (counted (hi -ℤ lo))) k
    ∙ ap (option_map (λ m. Whole (lo +ℤ pos m))) (range_at (counted (hi -ℤ lo)) k below))

counted_in : (lo hi whole : ℤ) → lo ≤ℤ whole → whole ≤ℤ hi → (k : ℕ) → whole ≡ lo +ℤ pos k → k < counted (hi -ℤ lo)
counted_in lo hi whole low high k is = grind (arith, ints)

pub within_counted : (lo hi : ℤ) (k : ℕ) → k < counted (hi -ℤ lo) → (lo +ℤ pos k) ≤ℤ hi
within_counted lo hi k below = grind (arith, ints)

pub number_of_whole : (lo hi whole : ℤ) (k : ℕ) → lo ≤ℤ whole → whole ≤ℤ hi → whole ≡ lo +ℤ pos k → slice_get (values (Range lo hi)) k ≡ Some (Whole whole)
number_of_whole lo hi whole k low high is =
    whole_place lo hi k (counted_in lo hi whole low high k is) ∙ ap (λ i. Some (Whole i)) (sym is)

-- the values of a range are its whole numbers
pub range_only : (lo hi : ℤ) (n : ℕ) (v : ValueTree) → slice_get (values (Range lo hi)) n ≡ Some v → (v ≡ Whole (lo +ℤ pos n)) × (n < counted (hi -ℤ lo))
range_only lo hi n v h =
    let below : n < counted (hi -ℤ lo) = rw (length-values (Range lo hi)) at (slice_get_within (values (Range lo hi)) n v h) in
    let same : v ≡ Whole (lo +ℤ pos n) = cc (whole_place lo hi n below) in
    (same, below)

pub no_whole : (lo hi whole : ℤ) → ((lo ≤ℤ whole) → (whole ≤ℤ hi) → ⊥) → (n : ℕ) → ¬ (slice_get (values (Range lo hi)) n ≡ Some (Whole whole))
no_whole lo hi whole outside n h =
    let found = range_only lo hi n (Whole whole) h in
    let is : whole ≡ lo +ℤ pos n = cc found.0 in
    let high = within_counted lo hi n found.1 in
    let low : lo ≤ℤ whole = grind (arith, ints) in
    outside low (subst (λ i. i ≤ℤ hi) (sym is) high)

range_within : {ok : Bool} (b : Bool) (few : Option TyFault) → b ≡ ok → (if b then few else Some BadRange) ≡ None → ok ≡ true
range_within true few is h = sym is
range_within false few is h = (cc)

pub in_bounds_tells : (lo hi : ℤ) → in_bounds lo hi ≡ true → (negsuc 999999 ≤ℤ lo) × (lo ≤ℤ hi) × (hi ≤ℤ pos 1000000)
in_bounds_tells lo hi h =
    let outer = and_parts (int_le (negsuc 999999) lo) (int_le lo hi && int_le hi (pos 1000000)) h in
    let inner = and_parts (int_le lo hi) (int_le hi (pos 1000000)) outer.1 in
    let low : negsuc 999999 ≤ℤ lo = grind (arith, ints, outer.0) in
    let upright : lo ≤ℤ hi = grind (arith, ints, inner.0) in
    let high : hi ≤ℤ pos 1000000 = grind (arith, ints, inner.1) in
    (low, upright, high)

-- a range with a size has bounds near 0
pub range_sized : (lo hi : ℤ) → HasSize (Range lo hi) → in_bounds lo hi ≡ true
range_sized lo hi h = range_within (in_bounds lo hi) (crowded 65536 (count (Range lo hi))) refl h

-- what the code adds up for the value with a number
pub range_sum : (lo hi : ℤ) (n : ℕ) → in_bounds lo hi ≡ true → n < counted (hi -ℤ lo)
    → to_z w64 (of_z w64 (to_z w64 (of_z w64 lo) +ℤ to_z w64 (of_z w64 (pos n)))) ≡ lo +ℤ pos n
range_sum lo hi n bounds below =
    let known = in_bounds_tells lo hi bounds in
    let high = within_counted lo hi n below in
    omega (arith, ints)

-- the number that the code takes from the difference
pub range_number : (lo hi whole : ℤ) → in_bounds lo hi ≡ true → lo ≤ℤ whole → whole ≤ℤ hi
    → whole ≡ lo +ℤ pos (nat_abs (to_z w64 (of_z w64 (to_z w64 (of_z w64 whole) -ℤ to_z w64 (of_z w64 lo)))))
range_number lo hi whole bounds low high = let known = in_bounds_tells lo hi bounds in omega (arith, ints)

-- ---- values of other forms

boolean_only : (n : ℕ) (v : ValueTree) → slice_get (values Boolean) n ≡ Some v → (b : Bool) × (v ≡ Truth b)
unfolding values
boolean_only zero v h = let same : v ≡ Truth false = (cc) in (false, same)
boolean_only (suc zero) v h = let same : v ≡ Truth true = (cc) in (true, same)
boolean_only (suc (suc n)) v h = (cc)

tuple_only : (ts : List TypeTree) (n : ℕ) (v : ValueTree) → slice_get (values (TupleOf (type_parts ts))) n ≡ Some v → (vs : List ValueTree) × (v ≡ Tuple (parts vs))
tuple_only ts n v h =
    let found = mapped_at (λ vs. Tuple (parts vs)) (combinations (map values ts)) n v (ap (λ us. slice_get us n) (sym (values-TupleOf ts)) ∙ h) in
    (found.0, found.2)

set_only : (base : TypeTree) (n : ℕ) (v : ValueTree) → slice_get (values (SetOf base)) n ≡ Some v → (vs : List ValueTree) × (v ≡ Set (parts vs))
set_only base n v h =
    let found = mapped_at (λ vs. Set (parts vs)) (subsets (values base)) n v (ap (λ us. slice_get us n) (sym (values-SetOf base)) ∙ h) in
    (found.0, found.2)

module _ (n : ℕ) where
  pub no_boolean : (v : Value) → ((b : Bool) → v ≡ value.Bool b → ⊥) → ¬ (slice_get (values Boolean) n ≡ Some (value_tree v))
  no_boolean =
      by_form (λ v. ((b : Bool) → v ≡ value.Bool b → ⊥) → ¬ (slice_get (values Boolean) n ≡ Some (value_tree v)))
      (λ b other h. other b refl)
      (λ i other h. let found = boolean_only n (value_tree (value.Int i)) h in cc (found.1, value_tree-Int i))
      (λ vs other h. let found = boolean_only n (value_tree (value.Tuple vs)) h in cc (found.1, value_tree-Tuple vs))
      (λ vs other h. let found = boolean_only n (value_tree (value.Set vs)) h in cc (found.1, value_tree-Set vs))

  pub no_range : (lo hi : ℤ) (v : Value) → ((i : ℤ) → v ≡ value.Int i → ⊥) → ¬ (slice_get (values (Range lo hi)) n ≡ Some (value_tree v))
  no_range lo hi =
      by_form (λ v. ((i : ℤ) → v ≡ value.Int i → ⊥) → ¬ (slice_get (values (Range lo hi)) n ≡ Some (value_tree v)))
      (λ b other h. let found = range_only lo hi n (value_tree (value.Bool b)) h in cc (found.0, value_tree-Bool b))
      (λ i other h. other i refl)
      (λ vs other h. let found = range_only lo hi n (value_tree (value.Tuple vs)) h in cc (found.0, value_tree-Tuple vs))
      (λ vs other h. let found = range_only lo hi n (value_tree (value.Set vs)) h in cc (found.0, value_tree-Set vs))

  pub no_tuple : (ts : List TypeTree) (v : Value) → ((vs : ValueList) → v ≡ value.Tuple vs → ⊥) → ¬ (slice_get (values (TupleOf (type_parts ts))) n ≡ Some (value_tree v))
  no_tuple ts =
      by_form (λ v. ((vs : ValueList) → v ≡ value.Tuple vs → ⊥) → ¬ (slice_get (values (TupleOf (type_parts ts))) n ≡ Some (value_tree v)))
      (λ b other h. let found = tuple_only ts n (value_tree (value.Bool b)) h in cc (found.1, value_tree-Bool b))
      (λ i other h. let found = tuple_only ts n (value_tree (value.Int i)) h in cc (found.1, value_tree-Int i))
      (λ vs other h. other vs refl)
      (λ vs other h. let found = tuple_only ts n (value_tree (value.Set vs)) h in cc (found.1, value_tree-Set vs))

  pub no_set_value : (base : TypeTree) (v : Value) → ((vs : ValueList) → v ≡ value.Set vs → ⊥) → ¬ (slice_get (values (SetOf base)) n ≡ Some (value_tree v))
  no_set_value base =
      by_form (λ v. ((vs : ValueList) → v ≡ value.Set vs → ⊥) → ¬ (slice_get (values (SetOf base)) n ≡ Some (value_tree v)))
      (λ b other h. let found = set_only base n (value_tree (value.Bool b)) h in cc (found.1, value_tree-Bool b))
      (λ i other h. let found = set_only base n (value_tree (value.Int i)) h in cc (found.1, value_tree-Int i))
      (λ vs other h. let found = set_only base n (value_tree (value.Tuple vs)) h in cc (found.1, value_tree-Tuple vs))
      (λ vs other h. other vs refl)

-- ---- well-formed tuples and sets

each_of_parts : (vs : List ValueTree) → EachWellFormed (parts vs) → Each IsWellFormed vs
each_of_parts [] h = tt
each_of_parts (v ∷ vs) h = (h.0, each_of_parts vs h.1)

pub tuple_formed : (vs : List ValueTree) → IsWellFormed (Tuple (parts vs)) → Each IsWellFormed vs
tuple_formed vs h = each_of_parts vs h.1

pub set_formed : (vs : List ValueTree) → IsWellFormed (Set (parts vs)) → IsStrictlySortedBy order vs × Each IsWellFormed vs
set_formed vs h = (rw (parts_list-parts vs) at h.0, each_of_parts vs h.1)
