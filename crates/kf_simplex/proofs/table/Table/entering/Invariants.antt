use Rattle.std.proofs.Common.{ℕ, ◌<◌, ◌≤ℤ◌, pos, drop}
use Rattle.kf_simplex.specs.Entries.{number_in}
use Rattle.kf_simplex.specs.Flat.{entries_at}
use Rattle.kf_simplex.proofs.Merging.{IsLeft}
use Rattle.kf_simplex.proofs.table.Table.entering.Given as goal

-- before some column no number is positive, and from it on the row is left
abbrev pub invariant-loop-e : goal.invariant-loop-e
invariant-loop-e l = (low : ℕ) × IsLeft (entries_at l.self.rows.items l.self.equations) (drop l.e-index (entries_at l.self.rows.items l.self.equations)) low
    × ((j : ℕ) → j < low → number_in (entries_at l.self.rows.items l.self.equations) j ≤ℤ pos 0)
