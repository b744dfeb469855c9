use Rattle.std.proofs.Common.{drop}
use Rattle.kf_simplex.proofs.FirstRows.{IsAdding}
use Rattle.kf_simplex.proofs.building.add_row.Given as goal

abbrev pub invariant-loop-e : goal.invariant-loop-e
invariant-loop-e l = IsAdding l.initial.sums l.sums l.row.entries.items (drop l.e-index l.row.entries.items)
