use Rattle.std.proofs.Common.{◌≡◌, ℕ, ◌+◌, ◌<◌, length}
use Rattle.kf_simplex.specs.Base.{at}
use Rattle.kf_simplex.specs.Flat.{cell}
use Rattle.kf_simplex.proofs.table.Table.multipliers.Given as goal

abbrev pub invariant-loop-k : goal.invariant-loop-k
invariant-loop-k l = record {
  len : length l.numbers.items ≡ l.k;
  entries : (j : ℕ) → j < l.k → at l.numbers.items j ≡ cell l.self.rows.items l.self.equations (l.self.unknowns + j);
}
