use Rattle.kf_simplex.proofs.Entries.{IsMade}
use Rattle.kf_simplex.proofs.FirstRows.{IsNumber}
use Rattle.kf_simplex.proofs.conversion.row_of.Given as goal

-- the coefficients before the column are there
abbrev pub invariant-loop-column : goal.invariant-loop-column
invariant-loop-column l = IsMade (IsNumber l.coefs) l.column l.entries.items
