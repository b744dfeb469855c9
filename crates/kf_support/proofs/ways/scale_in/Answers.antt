use Rattle.kf_support.proofs.Adding.{scaled_whole, scaled_less}
use Rattle.kf_support.proofs.ways.scale_in.Goals as goal

pub loop-i-init : goal.loop-i-init
loop-i-init c = scaled_whole c.args.reached.now c.requires.0 c.requires.1

pub loop-i-preserved : goal.loop-i-preserved
loop-i-preserved c = rw c.common-scale.ensures (scaled_less c.args.reached.now c.loop-i.i c.loop-i.scale c.loop-i-test.true c.loop-i.invariant)
