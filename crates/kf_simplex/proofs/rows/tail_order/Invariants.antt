use Rattle.std.proofs.Common.{◌+◌, length}
use Rattle.kf_simplex.proofs.Tails.{IsTailing}
use Rattle.kf_simplex.proofs.rows.tail_order.Given as goal

abbrev pub decreases-loop-pair : goal.decreases-loop-pair
decreases-loop-pair l = length l.xs + length l.ys

abbrev pub invariant-loop-pair : goal.invariant-loop-pair
invariant-loop-pair l = IsTailing l.a.entries.items l.b.entries.items l.xs l.ys l.from l.to l.p l.q
