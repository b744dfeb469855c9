use Rattle.std.proofs.Common.{arith}
use Rattle.std.specs.List.{range_with_len}
use Rattle.kf_check.proofs.TargetTurns.{place_more}
use Rattle.kf_check.proofs.targets.first_slots.Goals as goal

pub loop-i-preserved : goal.loop-i-preserved
loop-i-preserved c = rw c.in_ok-push.ensures.items (place_more c.loop-i.slots.items (range_with_len 0 c.args.count) c.loop-i.i c.args.count (omega arith) c.loop-i.invariant)
