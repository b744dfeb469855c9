use Rattle.std.proofs.Common.{◌≡◌, ℕ, length}
use Rattle.std.proofs.Math.IntN.{pos}
use Rattle.kf_simplex.specs.Answers.{num_at}
use Rattle.kf_simplex.proofs.Quotients.{ReadOff}
use Rattle.kf_simplex.specs.Flat.{cell}
use Rattle.kf_simplex.proofs.table.Table.solution.Given as goal

abbrev pub invariant-loop-j : goal.invariant-loop-j
invariant-loop-j l = record { len : length l.values.items ≡ l._j; zeros : (j : ℕ) → num_at l.values.items j ≡ pos 0 }

abbrev pub invariant-loop-i : goal.invariant-loop-i
invariant-loop-i l = ReadOff (cell l.self.rows.items) l.self.basis.items l.self.unknowns l.self.equations l.values.items l.i
