use Rattle.std.proofs.Common.{FitsSigned, ℤ, pos, ◌+ℤ◌, rules, ap, ◌∙◌}
use Rattle.std.proofs.lemmas.Int.{to_z-of_z}
use mir.Syntax.{w64}
use Rattle.kf_simplex.specs.Base.{at}
use Rattle.kf_refine.proofs.Tabling.{factor_more}
use Rattle.kf_refine.proofs.multipliers.common_factor.Goals as goal

pub loop-number-preserved : goal.loop-number-preserved
loop-number-preserved c =
    let f : FitsSigned w64 (at c.args.numbers.now c.loop-number.number-index) = search rules in
    factor_more c.args.numbers.now c.args.shift c.loop-number.number-index c.loop-number.factor c.shifted.result c.gcd-factor.result
    (c.shifted.ensures ∙ ap (λ (z : ℤ). z +ℤ pos c.args.shift) (to_z-of_z w64 (at c.args.numbers.now c.loop-number.number-index) f))
    c.gcd-factor.ensures c.loop-number.invariant
