use Rattle.kf_simplex.proofs.Entries.{IsMade}
use Rattle.kf_simplex.proofs.FirstRows.{IsNumber}
use Rattle.kf_simplex.proofs.building.dense_row.Given as goal

-- the numbers before the column are there
abbrev pub invariant-loop-column : goal.invariant-loop-column
invariant-loop-column l = IsMade (IsNumber l.numbers) l.column l.entries.items
