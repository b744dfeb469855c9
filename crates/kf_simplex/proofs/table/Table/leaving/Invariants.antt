use Rattle.std.proofs.Common.{◌+◌}
use Rattle.kf_simplex.specs.Cells.{IsLeaving}
use Rattle.kf_simplex.specs.Flat.{cell}
use Rattle.kf_simplex.proofs.table.Table.leaving.Given as goal

abbrev pub invariant-loop-i : goal.invariant-loop-i
invariant-loop-i l = IsLeaving (cell l.self.rows.items) (l.self.unknowns + l.self.equations + 1) l.self.unknowns l.c l.i l.best
