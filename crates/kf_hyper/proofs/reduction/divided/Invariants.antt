use Rattle.std.proofs.Common.{◌≡◌}
use Rattle.kf_column.proofs.Factors.{quotient}
use Rattle.kf_hyper.proofs.InPlace.{part_mapped}
use Rattle.kf_hyper.proofs.reduction.divided.Given as goal

abbrev pub invariant-loop-i : goal.invariant-loop-i
invariant-loop-i l = l.entries.items ≡ part_mapped (quotient l.factor) l.i l.initial.entries.items
