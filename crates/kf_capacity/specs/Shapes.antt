-- For bodies: what a grid keeps.
use Rattle.std.specs.Prelude.{◌≡◌, ℕ, ◌<◌, ◌≤◌, All, length, sum_by, slice_index}
use Rattle.kf_frac.specs.Fractions.{limit}
use Rattle.kf_capacity.specs.Grids.{GridTree}

-- one number for each secret in each column, and the numbers of each secret sum to the denominator
pub record IsStochastic (g : GridTree) : Type 0 where
  pub some : 0 < g.over
  pub long : All (λ column. length column ≡ g.rows) g.columns
  pub sums : (i : ℕ) → i < g.rows → sum_by (λ column. slice_index column i) g.columns ≡ g.over

-- so, within the limit
pub record IsGrid (g : GridTree) : Type 0 where
  pub stochastic : IsStochastic g
  pub narrow : g.over ≤ limit
