use Rattle.std.proofs.Common.{◌∙◌}
use Rattle.kf_frac.proofs.CommonDivisors.{gcd_swap}
use Rattle.kf_column.proofs.Factors.{factor_none, factor_more, factor_all, factor_one}
use Rattle.kf_hyper.proofs.reduction.common_factor.Goals as goal

pub loop-entry-init : goal.loop-entry-init
loop-entry-init c = factor_none c.args.entries.now

pub loop-entry-preserved : goal.loop-entry-preserved
loop-entry-preserved c = factor_more c.args.entries.now c.loop-entry.entry-index c.loop-entry.factor c.gcd-factor.result _ c.loop-entry-test.true c.loop-entry.invariant (c.gcd-factor.ensures ∙ gcd_swap _ _)

pub returns : goal.returns
returns c = factor_all c.args.entries.now c.loop-entry.entry-index c.loop-entry.factor c.loop-entry-test.false c.loop-entry.invariant

pub returns-then-factor-eq1 : goal.returns-then-factor-eq1
returns-then-factor-eq1 c = factor_one c.args.entries.now c.loop-entry.entry-index c.loop-entry.factor c.if-factor-eq1.true c.loop-entry.invariant
