-- For bodies: what the best action gains before and after a column of a grid is seen (Alvim et al. 2020).
use Rattle.std.specs.Prelude.{ℕ, zero, suc, ◌+◌, ◌*◌, ◌==◌, List, map, sum_by, slice_index, if◌then◌else◌, max}
use Rattle.std.specs.List.{range_with_len}
use Rattle.kf_capacity.specs.Grids.{GridTree}
use mathlib.Core.List.{foldr}

-- the sum of a function's values at the numbers below n
abbrev pub sum_to : ℕ → (ℕ → ℕ) → ℕ
sum_to zero f = 0
sum_to (suc n) f = sum_to n f + f n

-- what an action gains at so many secrets: its gain at each one, times the weight there
abbrev pub gained : ℕ → (ℕ → ℕ) → (ℕ → ℕ) → ℕ
gained rows weights action = sum_to rows (λ x. weights x * action x)

-- the greatest of some numbers; 0 of none
abbrev pub greatest : List ℕ → ℕ
greatest ns = foldr max 0 ns

-- the vulnerability of weights: what the best action gains
abbrev pub vulnerability : ℕ → List (ℕ → ℕ) → (ℕ → ℕ) → ℕ
vulnerability rows actions weights = greatest (map (gained rows weights) actions)

-- the weights of a prior and a column together
abbrev pub together : (ℕ → ℕ) → List ℕ → ℕ → ℕ
together prior column x = prior x * slice_index column x

-- the vulnerability once a column is seen, over the grid's denominator
abbrev pub posterior : GridTree → List (ℕ → ℕ) → (ℕ → ℕ) → ℕ
posterior g actions prior = sum_by (λ column. vulnerability g.rows actions (together prior column)) g.columns

-- one guess at the secret: it gains 1 where it is right
abbrev pub guess : ℕ → ℕ → ℕ
guess secret x = if secret == x then 1 else 0

-- the gain of Bayes: a guess for each secret
abbrev pub guesses : ℕ → List (ℕ → ℕ)
guesses rows = map guess (range_with_len 0 rows)

-- every secret weighs the same
abbrev pub uniform : ℕ → ℕ
uniform x = 1
