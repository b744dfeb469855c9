use Rattle.std.proofs.Common.{◌≡◌, ℕ, ◌+◌, ◌<◌, length, get_or}
use Rattle.kf_simplex.proofs.building.first_basis.Given as goal

-- the first k artificial columns are there
abbrev pub invariant-loop-k : goal.invariant-loop-k
invariant-loop-k l = record {
  len : length l.basis.items ≡ l.k;
  artificial : (j : ℕ) → j < l.k → get_or l.basis.items j 0 ≡ l.unknowns + j;
}
