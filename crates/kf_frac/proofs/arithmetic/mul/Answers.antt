use Rattle.std.proofs.Common.{◌≡◌, ℕ, ◌<◌, ◌*◌, ◌^◌, ℤ, ◌*ℤ◌, not, Result, Ok, Err, IfOk, IsOk, IsErr, FitsSigned, to_z, of_z, refl, subst, ◌∙◌, arith, rules}
use Rattle.std.proofs.Math.Bool.{beq}
use Rattle.std.proofs.lemmas.Int.{to_z-of_z}
use mir.Syntax.{w128}
use Rattle.kf_frac.specs.declared.frac.Frac.{Frac}
use Rattle.kf_frac.specs.declared.making.Wide.{Wide}
use Rattle.kf_frac.specs.Fractions.{limit, reduced_num, reduced_den}
use Rattle.kf_frac.specs.Parts.{signed}
use Rattle.kf_frac.specs.Views.{num_of, den_of}
use Rattle.kf_frac.proofs.CommonDivisors.{gcd_positive}
use Rattle.kf_frac.proofs.CommonMultiples.{product_positive}
use Rattle.kf_frac.proofs.LowestTerms.{reduced_den_positive}
use Rattle.kf_frac.proofs.Products.{product_num, product_den, num_passes, den_passes, left_num, left_den, left_fits}
use Rattle.kf_frac.proofs.arithmetic.mul.Goals as goal

pub nonzero_div-a_size : goal.nonzero_div-a_size
nonzero_div-a_size c = omega (arith, gcd_positive c.sign_and_size-a_negative.result.1 c.args.b.den, c.gcd-left.ensures)

pub nonzero_div-b_size : goal.nonzero_div-b_size
nonzero_div-b_size c = omega (arith, gcd_positive c.sign_and_size-b_negative.result.1 c.args.a.den, c.gcd-right.ensures)

pub nonzero_div-a : goal.nonzero_div-a
nonzero_div-a c = omega (arith, gcd_positive c.sign_and_size-b_negative.result.1 c.args.a.den, c.gcd-right.ensures)

pub nonzero_div-b : goal.nonzero_div-b
nonzero_div-b c = omega (arith, gcd_positive c.sign_and_size-a_negative.result.1 c.args.b.den, c.gcd-left.ensures)

not_both : (r : Result Frac Wide) → IsErr r → IsOk r → ⊥
not_both (Ok f) p q = absurd (cc)
not_both (Err e) p q = absurd (cc)

above : (n : ℕ) → (n < 2 ^ 128 → ⊥) → limit < n
above n h = omega arith

-- two numbers with the code's readings, which are the numbers themselves
read : (x : ℤ) (y : ℤ) → FitsSigned w128 x → y ≡ to_z w128 (of_z w128 x) → y ≡ x
read x y f h = h ∙ to_z-of_z w128 x f

-- ---- what is left after cancelling is the product in lowest terms

pub returns-in_err-size-clause-fits : goal.returns-in_err-size-clause-fits
returns-in_err-size-clause-fits c =
    let none = rw c.in_err-size.ensures.ok_part at c.checked_mul.ensures in
    let num = product_num c.args.a c.args.b c.sign_and_size-a_negative.result.0 c.sign_and_size-b_negative.result.0
    c.sign_and_size-a_negative.result.1 c.sign_and_size-b_negative.result.1 c.gcd-left.result c.gcd-right.result _
    (read c.args.a.num _ (search rules) c.sign_and_size-a_negative.ensures.value)
    (read c.args.b.num _ (search rules) c.sign_and_size-b_negative.ensures.value)
    c.gcd-left.ensures c.gcd-right.ensures refl in (
      λ e. absurd (not_both c.from_residual.result c.from_residual.ensures.0 e),
      λ h. absurd (num_passes _ _ _ _ num (above _ none) h),
    )

pub returns-in_err-den-clause-fits : goal.returns-in_err-den-clause-fits
returns-in_err-den-clause-fits c =
    let none = rw c.in_err-den.ensures.ok_part at c.checked_mul-2.ensures in
    let den = product_den c.args.a c.args.b c.sign_and_size-a_negative.result.0 c.sign_and_size-b_negative.result.0
    c.sign_and_size-a_negative.result.1 c.sign_and_size-b_negative.result.1 c.gcd-left.result c.gcd-right.result _
    (read c.args.a.num _ (search rules) c.sign_and_size-a_negative.ensures.value)
    (read c.args.b.num _ (search rules) c.sign_and_size-b_negative.ensures.value)
    c.gcd-left.ensures c.gcd-right.ensures refl in (
      λ e. absurd (not_both c.from_residual-in_err-den.result c.from_residual-in_err-den.ensures.0 e),
      λ h. absurd (den_passes _ _ _ den (above _ none) h),
    )

-- the lowest terms of the product, as the code has them
parts : (c : goal.After-lowest_terms)
    → (reduced_num (c.args.a.num *ℤ c.args.b.num) (c.args.a.den * c.args.b.den)
    ≡ signed (not (beq c.sign_and_size-a_negative.result.0 c.sign_and_size-b_negative.result.0)) c.in_ok-size.size)
    × (reduced_den (c.args.a.num *ℤ c.args.b.num) (c.args.a.den * c.args.b.den) ≡ c.in_ok-den.den)
parts c =
    let some = rw c.in_ok-size.ensures.ok_part at c.checked_mul.ensures in
    let some' = rw c.in_ok-den.ensures.ok_part at c.checked_mul-2.ensures in (
      product_num c.args.a c.args.b c.sign_and_size-a_negative.result.0 c.sign_and_size-b_negative.result.0
          c.sign_and_size-a_negative.result.1 c.sign_and_size-b_negative.result.1 c.gcd-left.result c.gcd-right.result c.in_ok-size.size
          (read c.args.a.num _ (search rules) c.sign_and_size-a_negative.ensures.value)
          (read c.args.b.num _ (search rules) c.sign_and_size-b_negative.ensures.value)
          c.gcd-left.ensures c.gcd-right.ensures some.1,
      product_den c.args.a c.args.b c.sign_and_size-a_negative.result.0 c.sign_and_size-b_negative.result.0
          c.sign_and_size-a_negative.result.1 c.sign_and_size-b_negative.result.1 c.gcd-left.result c.gcd-right.result c.in_ok-den.den
          (read c.args.a.num _ (search rules) c.sign_and_size-a_negative.ensures.value)
          (read c.args.b.num _ (search rules) c.sign_and_size-b_negative.ensures.value)
          c.gcd-left.ensures c.gcd-right.ensures some'.1,
    )

pub lowest_terms-requires : goal.lowest_terms-requires
lowest_terms-requires c =
    let some = rw c.in_ok-den.ensures.ok_part at c.checked_mul-2.ensures in
    let den = product_den c.args.a c.args.b c.sign_and_size-a_negative.result.0 c.sign_and_size-b_negative.result.0
    c.sign_and_size-a_negative.result.1 c.sign_and_size-b_negative.result.1 c.gcd-left.result c.gcd-right.result c.in_ok-den.den
    (read c.args.a.num _ (search rules) c.sign_and_size-a_negative.ensures.value)
    (read c.args.b.num _ (search rules) c.sign_and_size-b_negative.ensures.value)
    c.gcd-left.ensures c.gcd-right.ensures some.1 in
    subst (λ (x : ℕ). 0 < x) den
    (reduced_den_positive (c.args.a.num *ℤ c.args.b.num) (c.args.a.den * c.args.b.den) (product_positive _ _ c.args.a.positive c.args.b.positive))

pub returns-clause-num : goal.returns-clause-num
returns-clause-num c =
    subst (λ (x : ℤ). IfOk c.lowest_terms.result (λ f. num_of f ≡ x))
    (left_num _ _ _ _ (product_positive c.args.a.den c.args.b.den c.args.a.positive c.args.b.positive) (parts c).0 (parts c).1)
    c.lowest_terms.ensures.num

pub returns-clause-den : goal.returns-clause-den
returns-clause-den c =
    subst (λ (x : ℕ). IfOk c.lowest_terms.result (λ f. den_of f ≡ x))
    (left_den _ _ _ _ (product_positive c.args.a.den c.args.b.den c.args.a.positive c.args.b.positive) (parts c).0 (parts c).1)
    c.lowest_terms.ensures.den

pub returns-clause-fits : goal.returns-clause-fits
returns-clause-fits c =
    let same = left_fits _ _ _ _ (product_positive c.args.a.den c.args.b.den c.args.a.positive c.args.b.positive) (parts c).0 (parts c).1 in
    (λ e. same.0 (c.lowest_terms.ensures.fits.0 e), λ h. c.lowest_terms.ensures.fits.1 (same.1 h))
