use Rattle.std.proofs.Common.{◌∙◌, ap}
use Rattle.kf_frac.specs.Divisors.{gcd_of}
use Rattle.kf_refine.specs.Refinements.{joint}
use Rattle.kf_refine.specs.Views.{hyper_tree}
use Rattle.kf_refine.proofs.Scaled.{divisor_more}
use Rattle.kf_refine.proofs.scalings.value_divisor.Goals as goal

pub loop-i-preserved : goal.loop-i-preserved
loop-i-preserved c =
    divisor_more (joint (hyper_tree c.args.h.now) c.args.x) c.loop-i.i c.loop-i.common c.gcd-common.result c.loop-i.invariant
    (c.gcd-common.ensures ∙ ap (gcd_of c.loop-i.common) c.weight.ensures)
