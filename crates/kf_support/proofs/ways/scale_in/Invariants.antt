use Rattle.std.proofs.Common.{◌-◌, length, take}
use Rattle.kf_support.proofs.Adding.{ScaledFrom}
use Rattle.kf_support.proofs.ways.scale_in.Given as goal

abbrev pub invariant-loop-i : goal.invariant-loop-i
invariant-loop-i l = ScaledFrom (take (length l.reached - l.i) l.reached) l.reached l.scale
