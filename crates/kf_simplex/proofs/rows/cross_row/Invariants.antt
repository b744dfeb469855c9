use Rattle.std.proofs.Common.{◌+◌, length}
use Rattle.kf_simplex.proofs.Crossing.{IsCrossing}
use Rattle.kf_simplex.proofs.rows.cross_row.Given as goal

abbrev pub decreases-loop-pair : goal.decreases-loop-pair
decreases-loop-pair l = length l.xs + length l.ys

abbrev pub invariant-loop-pair : goal.invariant-loop-pair
invariant-loop-pair l = IsCrossing l.row.entries.items l.other.entries.items l.xs l.ys l.p l.a l.entries.items
