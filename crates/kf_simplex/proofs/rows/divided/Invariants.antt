use Rattle.std.proofs.Common.{ℕ, drop}
use Rattle.kf_simplex.proofs.Crossing.{Divided}
use Rattle.kf_simplex.proofs.Entries.{IsMade}
use Rattle.kf_simplex.proofs.Merging.{IsLeft}
use Rattle.kf_simplex.proofs.rows.divided.Given as goal

-- before some column all is divided, and from it on the row is left
abbrev pub invariant-loop-e : goal.invariant-loop-e
invariant-loop-e l = (low : ℕ) × IsLeft l.row.entries.items (drop l.e-index l.row.entries.items) low
    × IsMade (Divided l.row.entries.items l.g) low l.entries.items
