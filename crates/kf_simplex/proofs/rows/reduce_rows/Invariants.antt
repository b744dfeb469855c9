use Rattle.std.proofs.Common.{◌≡◌, length}
use Rattle.kf_simplex.specs.Cells.{PassesRows}
use Rattle.kf_simplex.specs.Flat.{cell}
use Rattle.kf_simplex.proofs.Reducing.{Tells}
use Rattle.kf_simplex.proofs.rows.reduce_rows.Given as goal

-- the first i rows are passed, and it is known whether all are narrow
abbrev pub invariant-loop-i : goal.invariant-loop-i
invariant-loop-i l = record {
  len : length l.rows ≡ length l.initial.rows;
  passed : PassesRows (cell l.initial.rows) (cell l.rows) l.r l.c l.i;
  narrow : Tells l.narrow (cell l.rows);
}
