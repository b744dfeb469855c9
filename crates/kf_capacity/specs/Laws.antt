-- For bodies: laws of capacities and of composed channels (Alvim et al. 2020).
use Rattle.std.specs.Prelude.{◌≡◌, ℕ, ◌+◌, ◌*◌, ◌-◌, ◌<◌, ◌≤◌, List, All, length, flat_map, map}
use Prim.Native.Nat.{◌∣◌}
use Rattle.kf_capacity.specs.Grids.{ChannelTree, GridTree, cell_den, denominator, capacity_of}
use Rattle.kf_capacity.specs.Compositions.{cascade_grid, parallel_grid, choice_grid}
use Rattle.kf_capacity.specs.Shapes.{IsStochastic}
use Rattle.kf_capacity.specs.Vulnerabilities.{vulnerability, posterior, guesses, uniform}

-- each of the numbers divides it, and no smaller positive number has all these as divisors
pub record IsLeastMultiple (ds : List ℕ) (n : ℕ) : Type 0 where
  pub positive : 0 < n
  pub divided : All (λ d. d ∣ n) ds
  pub least : (m : ℕ) → 0 < m → All (λ d. d ∣ m) ds → n ≤ m

-- the denominator of a channel is the least common multiple of those of its cells
abbrev pub LeastDenominator : Type 0
LeastDenominator = (c : ChannelTree) → All (λ d. 0 < d) (flat_map (λ row. map (cell_den c row) c.secrets) c.rows)
    → IsLeastMultiple (flat_map (λ row. map (cell_den c row) c.secrets) c.rows) (denominator c)

-- whatever the prior and the gain, what is seen multiplies the vulnerability by no more than the capacity
abbrev pub CapacityBounds : Type 0
CapacityBounds = (g : GridTree) (actions : List (ℕ → ℕ)) (prior : ℕ → ℕ)
    → posterior g actions prior ≤ vulnerability g.rows actions prior * capacity_of g

-- with one guess at secrets of equal weight it does so by exactly the capacity
abbrev pub CapacityIsMet : Type 0
CapacityIsMet = (g : GridTree) → 0 < g.rows → IsStochastic g
    → posterior g (guesses g.rows) uniform ≡ vulnerability g.rows (guesses g.rows) uniform * capacity_of g

-- each column of the first grid has its place in the second
pub record Fit (g h : GridTree) (places : List ℕ) : Type 0 where
  pub first : IsStochastic g
  pub second : IsStochastic h
  pub many : length places ≡ length g.columns
  pub within : All (λ place. place < h.rows) places

-- data processing: whatever the prior and the gain, nothing is gained by what stands behind a channel
abbrev pub NothingIsGained : Type 0
NothingIsGained = (g h : GridTree) (places : List ℕ) (actions : List (ℕ → ℕ)) (prior : ℕ → ℕ) → Fit g h places
    → posterior (cascade_grid g places h) actions prior ≤ posterior g actions prior * h.over

-- the capacity of a cascade is at most each of the two
abbrev pub CascadeIsBounded : Type 0
CascadeIsBounded = (g h : GridTree) (places : List ℕ) → Fit g h places
    → (capacity_of (cascade_grid g places h) ≤ capacity_of g * h.over)
    × (capacity_of (cascade_grid g places h) ≤ g.over * capacity_of h)

-- the capacity of two channels side by side is at most the product of the two
abbrev pub ParallelIsBounded : Type 0
ParallelIsBounded = (g h : GridTree) → capacity_of (parallel_grid g h) ≤ capacity_of g * capacity_of h

-- the capacity of a choice is the weighted mean of the two: (num * first + (den - num) * second) / den
abbrev pub ChoiceIsMean : Type 0
ChoiceIsMean = (num den : ℕ) (g h : GridTree) → num < den → IsStochastic g → IsStochastic h
    → capacity_of (choice_grid num den g h) * (g.over * h.over * den)
    ≡ (num * (capacity_of g * h.over) + (den - num) * (capacity_of h * g.over)) * (choice_grid num den g h).over

-- composed grids are grids: the numbers of each secret sum to the denominator
abbrev pub CascadeIsStochastic : Type 0
CascadeIsStochastic = (g h : GridTree) (places : List ℕ) → Fit g h places → IsStochastic (cascade_grid g places h)

abbrev pub ParallelIsStochastic : Type 0
ParallelIsStochastic = (g h : GridTree) → g.rows ≡ h.rows → IsStochastic g → IsStochastic h → IsStochastic (parallel_grid g h)

abbrev pub ChoiceIsStochastic : Type 0
ChoiceIsStochastic = (num den : ℕ) (g h : GridTree) → 0 < den → num ≤ den → g.rows ≡ h.rows → IsStochastic g → IsStochastic h
    → IsStochastic (choice_grid num den g h)
