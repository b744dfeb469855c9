use Rattle.std.proofs.Common.{◌≤◌, ◌/◌, ℕ, arith, sym, ◌∙◌, ap, refl, FitsSigned, rules, to_z, of_z}
use Rattle.std.proofs.lemmas.Int.{to_z-of_z}
use mir.Syntax.{w128}
use Rattle.kf_frac.specs.Fractions.{reduced_num, reduced_den, limit}
use Rattle.kf_frac.specs.Parts.{PartsFit, signed}
use Rattle.kf_frac.proofs.CommonDivisors.{gcd_positive}
use Rattle.kf_frac.proofs.LowestTerms.{reduced_num_signed, reduced_den_signed, parts_fit, quotients_fit, quotient_positive, signed_fits, signed_coprime}
use Rattle.kf_frac.proofs.making.lowest_terms.Goals as goal

pub quotient-size-requires : goal.quotient-size-requires
quotient-size-requires c = omega (arith, gcd_positive c.args.size c.args.den, c.gcd-divisor.ensures)

pub quotient-den-requires : goal.quotient-den-requires
quotient-den-requires c = omega (arith, gcd_positive c.args.size c.args.den, c.gcd-divisor.ensures)

pub returns-then-size-gt-LIMIT-clause-fits : goal.returns-then-size-gt-LIMIT-clause-fits
returns-then-size-gt-LIMIT-clause-fits c = (
  λ e. (cc),
  λ (h : PartsFit (reduced_num (signed c.args.negative c.args.size) c.args.den) (reduced_den (signed c.args.negative c.args.size) c.args.den)).
      let q : (c.args.size / c.gcd-divisor.result ≤ limit) × (c.args.den / c.gcd-divisor.result ≤ limit) =
      quotients_fit c.args.negative c.args.size c.args.den c.gcd-divisor.result c.gcd-divisor.ensures h in
      absurd (omega arith),
)

pub invariant_of-result-clause-positive : goal.invariant_of-result-clause-positive
invariant_of-result-clause-positive c = rw c.quotient-den.ensures (quotient_positive c.args.size c.args.den c.gcd-divisor.result c.gcd-divisor.ensures c.requires)

pub invariant_of-result-clause-num_fits : goal.invariant_of-result-clause-num_fits
invariant_of-result-clause-num_fits c =
    let f : FitsSigned w128 c.with_sign.result = search rules in
    signed_fits c.args.negative (to_z w128 (of_z w128 c.with_sign.result)) c.quotient-size.result
    (to_z-of_z w128 c.with_sign.result f ∙ c.with_sign.ensures) (omega arith)

pub invariant_of-result-clause-reduced : goal.invariant_of-result-clause-reduced
invariant_of-result-clause-reduced c =
    let f : FitsSigned w128 c.with_sign.result = search rules in
    rw c.quotient-den.ensures (
    signed_coprime c.args.negative (to_z w128 (of_z w128 c.with_sign.result)) c.args.size c.args.den c.gcd-divisor.result
    (to_z-of_z w128 c.with_sign.result f ∙ c.with_sign.ensures ∙ ap (signed c.args.negative) c.quotient-size.ensures) c.gcd-divisor.ensures c.requires
    )

pub returns-clause-num : goal.returns-clause-num
returns-clause-num c =
    let f : FitsSigned w128 c.with_sign.result = search rules in
    simp to_z-of_z (c.with_sign.ensures ∙ ap (signed c.args.negative) c.quotient-size.ensures ∙ ap (λ (g : ℕ). signed c.args.negative (c.args.size / g)) c.gcd-divisor.ensures ∙ sym (reduced_num_signed c.args.negative c.args.size c.args.den))

pub returns-clause-den : goal.returns-clause-den
returns-clause-den c = c.quotient-den.ensures ∙ ap (λ (g : ℕ). c.args.den / g) c.gcd-divisor.ensures ∙ sym (reduced_den_signed c.args.negative c.args.size c.args.den)

pub returns-clause-fits : goal.returns-clause-fits
returns-clause-fits c =
    (λ e. parts_fit c.args.negative c.args.size c.args.den c.gcd-divisor.result c.gcd-divisor.ensures (omega arith) (omega arith), λ h. refl)
