-- For bodies: the first rows of the first table, and their sums.
use Rattle.std.specs.Prelude.{◌≡◌, ℕ, ◌+◌, ◌<◌, ℤ, List, length}
use Rattle.kf_simplex.specs.declared.row.Row.{Row}
use Rattle.kf_simplex.specs.Base.{at, total}
use Rattle.kf_simplex.specs.Flat.{cell}

-- the first k rows have the numbers of the equations, e over v unknowns, and these are their sums
pub record Built (v e : ℕ) (number : ℕ → ℕ → ℤ) (rows : List Row) (sums : List ℤ) (k : ℕ) : Type 0 where
  pub len : length rows ≡ k
  pub sums_len : length sums ≡ v + e + 1
  pub written : (i c : ℕ) → i < k → cell rows i c ≡ number i c
  pub summed : (c : ℕ) → c < v + e + 1 → at sums c ≡ total k (λ i. number i c)
