use Rattle.std.proofs.Common.{◌≡◌, ◌≤◌, ℕ, ◌/◌, ℤ, pos, ◌+ℤ◌, ◌*ℤ◌, unsigned_abs, IfOk, IsOk, IsErr, IsSome, Bool, Option, Some, None, Result, Ok, Err, sym, ap, subst, ◌∙◌, refl}
use Rattle.kf_frac.specs.declared.frac.Frac.{Frac}
use Rattle.kf_frac.specs.declared.making.Wide.{Wide}
use Rattle.kf_frac.specs.Fractions.{limit}
use Rattle.kf_frac.specs.Parts.{PartsFit, signed}
use Rattle.kf_frac.specs.Views.{num_of, den_of}
use Rattle.kf_frac.specs.Arithmetic.{sum_over}
use Rattle.kf_frac.proofs.Scaling.{sum_num_reduced, sum_den_reduced, reduced_fit}
use Rattle.kf_frac.proofs.arithmetic.add.Goals as goal

not_both : (r : Result Frac Wide) → IsErr r → IsOk r → ⊥
not_both (Ok f) p q = absurd (cc)
not_both (Err e) p q = absurd (cc)

nothing : (o : Option (Bool × ℕ)) → o ≡ None → IsSome o → ⊥
nothing None e p = absurd (cc)
nothing (Some x) e p = absurd (cc)

something : (o : Option (Bool × ℕ)) (x : Bool × ℕ) → o ≡ Some x → IsSome o
something o x e = rw e refl

-- the numerator times the factor that the code has
times_factor : (f : Frac) {n m : ℕ} → n ≡ m → num_of f *ℤ pos n ≡ f.num *ℤ pos m
times_factor f e = ap (λ (k : ℕ). f.num *ℤ pos k) e

-- the two products add up to the sum over the least common multiple
joined : (a b : Frac) (m : ℕ) (x y : ℤ) → x ≡ a.num *ℤ pos (m / a.den) → y ≡ b.num *ℤ pos (m / b.den) → x +ℤ y ≡ sum_over m a b
joined a b m x y p q = ap (λ (z : ℤ). z +ℤ y) p ∙ ap (λ (z : ℤ). a.num *ℤ pos (m / a.den) +ℤ z) q

within : (x y z : ℤ) → x ≡ y → y ≡ z → unsigned_abs z ≤ limit → unsigned_abs x ≤ limit
within x y z p q h = subst (λ (w : ℤ). unsigned_abs w ≤ limit) (sym (p ∙ q)) h

-- the sum that the code has made
made : (c : goal.After-lowest_terms) → signed c.in_ok-negative.negative c.in_ok-negative.size ≡ sum_over c.in_ok-den.den c.args.a c.args.b
made c =
    let is = rw c.in_ok-negative.ensures.ok_part at c.sum.ensures.exact in
    is ∙ joined c.args.a c.args.b c.in_ok-den.den _ _ (c.times-a_negative.ensures.value ∙ times_factor c.args.a c.quotient.ensures) (c.times-b_negative.ensures.value ∙ times_factor c.args.b c.quotient-2.ensures)

pub returns-in_err-negative-clause-fits : goal.returns-in_err-negative-clause-fits
returns-in_err-negative-clause-fits c =
    let m = rw c.in_ok-den.ensures.ok_part at c.lcm.ensures.exact in (
      λ e. absurd (not_both c.from_residual-in_err-negative.result c.from_residual-in_err-negative.ensures.0 e),
      λ h. absurd (nothing c.sum.result c.in_err-negative.ensures.ok_part
          (c.sum.ensures.fits.1
          (within _ _ _ (joined c.args.a c.args.b c.in_ok-den.den _ _ (c.times-a_negative.ensures.value ∙ times_factor c.args.a c.quotient.ensures) (c.times-b_negative.ensures.value ∙ times_factor c.args.b c.quotient-2.ensures))
          (ap (λ (x : ℕ). sum_over x c.args.a c.args.b) m.1) h.num))),
    )

pub returns-clause-num : goal.returns-clause-num
returns-clause-num c =
    let m = rw c.in_ok-den.ensures.ok_part at c.lcm.ensures.exact in
    subst (λ (x : ℤ). IfOk c.lowest_terms.result (λ f. num_of f ≡ x))
    (sum_num_reduced c.args.a.num c.args.b.num (signed c.in_ok-negative.negative c.in_ok-negative.size) c.args.a.den c.args.b.den c.in_ok-den.den
    c.args.a.positive c.args.b.positive m.1 (made c))
    c.lowest_terms.ensures.num

pub returns-clause-den : goal.returns-clause-den
returns-clause-den c =
    let m = rw c.in_ok-den.ensures.ok_part at c.lcm.ensures.exact in
    subst (λ (x : ℕ). IfOk c.lowest_terms.result (λ f. den_of f ≡ x))
    (sum_den_reduced c.args.a.num c.args.b.num (signed c.in_ok-negative.negative c.in_ok-negative.size) c.args.a.den c.args.b.den c.in_ok-den.den
    c.args.a.positive c.args.b.positive m.1 (made c))
    c.lowest_terms.ensures.den

pub returns-clause-fits : goal.returns-clause-fits
returns-clause-fits c =
    let m = rw c.in_ok-den.ensures.ok_part at c.lcm.ensures.exact in
    let low : unsigned_abs (signed c.in_ok-negative.negative c.in_ok-negative.size) ≤ limit =
    subst (λ (z : ℤ). unsigned_abs z ≤ limit) (sym (rw c.in_ok-negative.ensures.ok_part at c.sum.ensures.exact))
    (c.sum.ensures.fits.0 (something c.sum.result (c.in_ok-negative.negative, c.in_ok-negative.size) c.in_ok-negative.ensures.ok_part)) in
    let fit : PartsFit (sum_over c.in_ok-den.den c.args.a c.args.b) c.in_ok-den.den =
    record { num = subst (λ (z : ℤ). unsigned_abs z ≤ limit) (made c) low; den = subst (λ (x : ℕ). x ≤ limit) (sym m.1) m.0 } in (
      λ e. subst (λ (x : ℕ). PartsFit (sum_over x c.args.a c.args.b) x) m.1 fit,
      λ h. c.lowest_terms.ensures.fits.1
          (reduced_fit (signed c.in_ok-negative.negative c.in_ok-negative.size) c.in_ok-den.den (subst (λ (z : ℤ). PartsFit z c.in_ok-den.den) (sym (made c)) fit)),
    )
