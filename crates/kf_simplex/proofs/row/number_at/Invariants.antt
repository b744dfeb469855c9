use Rattle.std.proofs.Common.{◌≡◌, ℕ, ◌≤◌, drop}
use Rattle.kf_simplex.specs.Entries.{Ascends, number_in}
use Rattle.kf_simplex.proofs.row.number_at.Given as goal

-- the number is that of what is left
abbrev pub invariant-loop-e : goal.invariant-loop-e
invariant-loop-e l = record {
  left : number_in (drop l.e-index l.row.entries.items) l.column ≡ number_in l.row.entries.items l.column;
  ascending : (low : ℕ) × (low ≤ l.column) × Ascends low (drop l.e-index l.row.entries.items);
}
