use Rattle.std.proofs.Common.{ℕ, ◌<◌}
use Rattle.kf_simplex.specs.Cells.{AllNarrow}
use Rattle.kf_simplex.specs.Flat.{cell}
use Rattle.kf_simplex.proofs.rows.are_all_narrow.Given as goal

-- the first i rows are narrow
abbrev pub invariant-loop-i : goal.invariant-loop-i
invariant-loop-i l = (k : ℕ) → k < l.i → AllNarrow (cell l.rows k)
