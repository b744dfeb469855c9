-- The truth or the whole number that a variable holds, by its number in its type.
use Rattle.std.proofs.Common.{◌≡◌, ℕ, ℤ, zero, suc, pos, negsuc, ◌<◌, ◌+ℤ◌, ◌-ℤ◌, ◌≤ℤ◌, Bool, true, false, length, slice_get, Some, refl, sym, ap, ◌∙◌, subst, arith, get_or, zero-add, Ok, FitsSigned, to_z, of_z, w64}
use Rattle.std.specs.Prelude.{int_le, ◌&&◌, ◌==◌, if◌then◌else◌, List, Option, None, IfSome}
use Rattle.std.specs.Option.{option_map}
use Rattle.std.specs.List.{range_with_len}
use Rattle.std.proofs.lemmas.Bool.{and_parts}
use Rattle.std.proofs.lemmas.Int.{ints}
use Rattle.std.proofs.lemmas.List.FromFn.{length-range_with_len, get_or-range_with_len}
use Rattle.std.proofs.lemmas.Option.{slice_get-map, slice_get-get_or}
use Rattle.kf_value.specs.Values.{ValueTree, Truth, Whole}
use Rattle.kf_value.specs.Types.{TypeTree, Boolean, Range, values, count, counted, in_bounds}
use Rattle.kf_value.specs.Sizes.{crowded, HasSize}
use Rattle.kf_value.specs.declared.ty.TyFault.{TyFault}
use Rattle.kf_value.specs.declared.ty.TyFault.TheVariants.{BadRange}
use Rattle.kf_core.specs.Evaluation.{ev}
use Rattle.kf_core.specs.Views.{ex_tree}
use Rattle.kf_core.specs.declared.ex.Ex.{Ex}
use Rattle.kf_core.specs.declared.ex.Ex.TheVariants as ex
use Rattle.kf_eval.proofs.Checking.{slot_value}

truth_at : (n : ℕ) → n < 2 → slice_get (values Boolean) n ≡ Some (Truth (n == 1))
unfolding values
truth_at zero below = refl
truth_at (suc zero) below = refl
truth_at (suc (suc n)) below = absurd (omega arith)

range_at : (n k : ℕ) → k < n → slice_get (range_with_len 0 n) k ≡ Some k
range_at n k below =
    let within : k < length (range_with_len 0 n) = rw (length-range_with_len 0 n) below in
    let found : get_or (range_with_len 0 n) k 0 ≡ k = get_or-range_with_len 0 n k 0 below ∙ zero-add k in
    slice_get-get_or (range_with_len 0 n) k 0 within ∙ ap (λ m. Some m) found

whole_at : (lo hi : ℤ) (k : ℕ) → k < counted (hi -ℤ lo) → slice_get (values (Range lo hi)) k ≡ Some (Whole (lo +ℤ pos k))
unfolding values
whole_at lo hi k below =
    slice_get-map (λ m. Whole (lo +ℤ pos m)) (range_with_len 0 (counted (hi -ℤ lo))) k
    ∙ ap (option_map (λ m. Whole (lo +ℤ pos m))) (range_at (counted (hi -ℤ lo)) k below)

range_within : {ok : Bool} (b : Bool) (few : Option TyFault) → b ≡ ok → (if b then few else Some BadRange) ≡ None → ok ≡ true
range_within true few is h = sym is
range_within false few is h = (cc)

in_bounds_tells : (lo hi : ℤ) → in_bounds lo hi ≡ true → (negsuc 999999 ≤ℤ lo) × (hi ≤ℤ pos 1000000)
in_bounds_tells lo hi h =
    let outer = and_parts (int_le (negsuc 999999) lo) (int_le lo hi && int_le hi (pos 1000000)) h in
    let inner = and_parts (int_le lo hi) (int_le hi (pos 1000000)) outer.1 in
    let low : negsuc 999999 ≤ℤ lo = grind (arith, ints, outer.0) in
    let high : hi ≤ℤ pos 1000000 = grind (arith, ints, inner.1) in
    (low, high)

within_counted : (lo hi : ℤ) (k : ℕ) → k < counted (hi -ℤ lo) → (lo +ℤ pos k) ≤ℤ hi
within_counted lo hi k below = grind (arith, ints)

-- a Boolean's value
pub truth_there : (t : TypeTree) (n : ℕ) → t ≡ Boolean → n < count t → slice_get (values t) n ≡ Some (Truth (n == 1))
truth_there t n is below =
    let few : n < 2 = subst (λ u. n < count u) is below in
    ap (λ u. slice_get (values u) n) is ∙ truth_at n few

module _ (t : TypeTree) (lo hi step : ℤ) (n : ℕ) (is : t ≡ Range lo hi) (sized : HasSize t) (below : n < count t) (same : step ≡ pos n) where
  number_within : (negsuc 999999 ≤ℤ lo) × ((lo +ℤ pos n) ≤ℤ pos 1000000)
  number_within =
      let few : n < counted (hi -ℤ lo) = subst (λ u. n < count u) is below in
      let bounds = in_bounds_tells lo hi (range_within (in_bounds lo hi) (crowded 65536 (count (Range lo hi))) refl (subst HasSize is sized)) in
      let last = within_counted lo hi n few in
      (bounds.0, omega (arith, ints, bounds.1, last))

  -- the sum that the code makes of a range's first number fits, and is the value
  pub number_fits : FitsSigned w64 (to_z w64 (of_z w64 lo) +ℤ to_z w64 (of_z w64 step))
  number_fits = let within = number_within in omega (arith, ints, within.0, within.1, same)

  pub number_there : slice_get (values t) n ≡ Some (Whole (to_z w64 (of_z w64 (to_z w64 (of_z w64 lo) +ℤ to_z w64 (of_z w64 step)))))
  number_there =
      let few : n < counted (hi -ℤ lo) = subst (λ u. n < count u) is below in
      let within = number_within in
      let sum : to_z w64 (of_z w64 (to_z w64 (of_z w64 lo) +ℤ to_z w64 (of_z w64 step))) ≡ lo +ℤ pos n = omega (arith, ints, within.0, within.1, same) in
      ap (λ u. slice_get (values u) n) is ∙ (whole_at lo hi n few ∙ ap (λ i. Some (Whole i)) (sym sum))

-- what a variable's value tells of the expression that names it
pub slot_tells : {A : Type 0} (tree : A → ValueTree) (s : List ValueTree) (e : Ex) (i n : ℕ) (r : Option A) → e ≡ ex.Slot i → n ≡ i
    → IfSome r (λ x. slice_get s n ≡ Some (tree x)) → IfSome r (λ x. ev s (ex_tree e) ≡ Ok (tree x))
slot_tells tree s e i n None is same at = tt
slot_tells tree s e i n (Some x) is same at = slot_value s e i n (tree x) is same at
