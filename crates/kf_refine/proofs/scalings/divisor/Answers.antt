use Rattle.kf_refine.specs.Views.{hyper_tree}
use Rattle.kf_refine.proofs.Scaled.{divisors_more}
use Rattle.kf_refine.proofs.scalings.divisor.Goals as goal

pub loop-k-preserved : goal.loop-k-preserved
loop-k-preserved c =
    divisors_more (hyper_tree c.args.h.now) c.args.values.now c.loop-k.k c.loop-k.common c.value_divisor.result c.gcd-common.result
    c.loop-k.invariant c.value_divisor.ensures c.gcd-common.ensures
