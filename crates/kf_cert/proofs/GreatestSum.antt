-- The greatest of a number and of all sums.
use Rattle.std.proofs.Common.{◌≡◌, true≢false, is_some, ℕ, List, [], ◌∷◌, ⊎_elim, Bool, true, false, All, refl, sym, ap, subst, arith, Option, None, Some, cond, unwrap_or}
use Rattle.std.specs.Prelude.{ℤ, pos, ◌≤ℤ◌}
use Rattle.std.specs.Int.{int_max}
use Rattle.std.specs.Map.{lookup}
use Rattle.std.proofs.lemmas.Int.{ints, clamps}
use Rattle.std.proofs.lemmas.List.Elements.{All-head, All-tail}
use Rattle.kf_gain.proofs.Acting.{max_is}

abbrev Sums : Type 0
Sums = List (ℕ × ℤ)

-- the greatest of z and all sums, one after the other
abbrev pub greatest_from : ℤ → Sums → ℤ
greatest_from z [] = z
greatest_from z (e ∷ es) = greatest_from (int_max z e.1) es

left : (x y : ℤ) → x ≤ℤ int_max x y
left x y = omega (arith, ints, clamps)

right : (x y : ℤ) → y ≤ℤ int_max x y
right x y = omega (arith, ints, clamps)

pub at_least : (z : ℤ) (es : Sums) → z ≤ℤ greatest_from z es
at_least z [] = omega (arith, ints)
at_least z (e ∷ es) = omega (arith, ints, left z e.1, at_least (int_max z e.1) es)

-- the value that a test finds first
bound_if : (b : Bool) (here best : ℤ) (o : Option ℤ) (v : ℤ) → here ≤ℤ best → ((v : ℤ) → o ≡ Some v → v ≤ℤ best) → cond b (Some here) o ≡ Some v → v ≤ℤ best
bound_if true here best o v first others is = let same : here ≡ v = ap (λ (o : Option ℤ). unwrap_or o here) is in omega (arith, ints, first, same)
bound_if false here best o v first others is = others v is

pub bounds : (test : ℕ → Bool) (z : ℤ) (es : Sums) (v : ℤ) → lookup test es ≡ Some v → v ≤ℤ greatest_from z es
bounds test z [] v is = absurd (true≢false (sym (ap is_some is)))
bounds test z (e ∷ es) v is =
    bound_if (test e.0) e.1 (greatest_from (int_max z e.1) es) (lookup test es) v (omega (arith, ints, right z e.1, at_least (int_max z e.1) es)) (λ v is. bounds test (int_max z e.1) es v is) is

-- it is z, or the sum of an action
pub taken : (P : ℤ → Type 0) (z : ℤ) (es : Sums) → P z → All (λ (e : ℕ × ℤ). P e.1) es → P (greatest_from z es)
taken P z [] first others = first
taken P z (e ∷ es) first others =
    taken P (int_max z e.1) es
    (⊎_elim (λ (same : int_max z e.1 ≡ z). subst P (sym same) first) (λ (same : int_max z e.1 ≡ e.1). subst P (sym same) (All-head (λ (e : ℕ × ℤ). P e.1) e es others)) (max_is z e.1 (int_max z e.1) refl))
    (All-tail (λ (e : ℕ × ℤ). P e.1) e es others)

-- none is greater, where an action without a sum counts as 0
pub sum_bounded : (test : ℕ → Bool) (z : ℤ) (es : Sums) → (lookup test es ≡ None → pos 0 ≤ℤ z) → unwrap_or (lookup test es) (pos 0) ≤ℤ greatest_from z es
sum_bounded test z es idle = either (lookup test es) refl
  where
    either : (o : Option ℤ) → lookup test es ≡ o → unwrap_or (lookup test es) (pos 0) ≤ℤ greatest_from z es
    either None is = omega (arith, ints, ap (λ (o : Option ℤ). unwrap_or o (pos 0)) is, idle is, at_least z es)
    either (Some v) is = omega (arith, ints, ap (λ (o : Option ℤ). unwrap_or o (pos 0)) is, bounds test z es v is)
