-- For bodies: laws of composed channels, cell by cell (Alvim et al. 2020, cascade and parallel composition).
use Rattle.std.specs.Prelude.{◌≡◌, ℕ, ◌+◌, ◌*◌, ◌<◌, true, List, [], Some, length, slice_get, slice_index, slice_index_or}
use Rattle.kf_column.specs.Traces.{Row}
use Rattle.kf_capacity.specs.Compositions.{cascade_grid, fits, parallel_grid, places, secret_values}
use Rattle.kf_capacity.specs.Grids.{ChannelTree, GridTree}
use Rattle.kf_capacity.specs.Shapes.{IsStochastic}
use Rattle.kf_capacity.specs.Vulnerabilities.{sum_to}

-- the number in the row of secret i and in column j
abbrev pub entry : GridTree → ℕ → ℕ → ℕ
entry g i j = slice_index (slice_index_or g.columns j []) i

-- a cascade is the matrix product, where the row of the second is the one at the place of the first one's column
abbrev pub CascadeIsProduct : Type 0
CascadeIsProduct = (g h : GridTree) (places : List ℕ) (i k : ℕ) → length places ≡ length g.columns → i < g.rows
    → entry (cascade_grid g places h) i k ≡ sum_to (length g.columns) (λ j. entry g i j * entry h (slice_index places j) k)

-- and that place is the one of the secret whose values the column's trace shows
abbrev pub PlacesShowSecrets : Type 0
PlacesShowSecrets = (c d : ChannelTree) (j : ℕ) (row : Row) → fits c d ≡ true → slice_get c.rows j ≡ Some row
    → slice_get (secret_values d) (slice_index (places c d) j) ≡ Some row.trace

-- side by side, columns j and k together have the product of their numbers: what a secret shows in the one is independent of the other
abbrev pub ParallelIsIndependent : Type 0
ParallelIsIndependent = (g h : GridTree) (i j k : ℕ) → k < length h.columns
    → entry (parallel_grid g h) i (j * length h.columns + k) ≡ entry g i j * entry h i k

-- and there are no more columns than these
abbrev pub ParallelHasPairs : Type 0
ParallelHasPairs = (g h : GridTree) → length (parallel_grid g h).columns ≡ length g.columns * length h.columns

-- so what the second shows, summed up, leaves the first channel
abbrev pub FirstMarginal : Type 0
FirstMarginal = (g h : GridTree) (i j : ℕ) → IsStochastic h → i < h.rows
    → sum_to (length h.columns) (λ k. entry (parallel_grid g h) i (j * length h.columns + k)) ≡ entry g i j * h.over

-- and the other way round
abbrev pub SecondMarginal : Type 0
SecondMarginal = (g h : GridTree) (i k : ℕ) → IsStochastic g → i < g.rows → k < length h.columns
    → sum_to (length g.columns) (λ j. entry (parallel_grid g h) i (j * length h.columns + k)) ≡ g.over * entry h i k
