-- Believed: channel matrices in whole numbers over one denominator, and their Bayes capacity (Alvim et al. 2020).
use Rattle.std.specs.Prelude.{ℕ, pos, max, List, map, flat_map, sum_by, length}
use Rattle.kf_frac.specs.Divisors.{common_multiple}
use Rattle.kf_frac.specs.Fractions.{reduced_den, parts_of}
use Rattle.kf_value.specs.Targets.{Item}
use Rattle.kf_column.specs.Traces.{Row, Share, share_at}
use mathlib.Core.List.{foldr}

-- a channel: what its secrets are values of, its traces with their columns of weights, and its secrets
pub record ChannelTree : Type 0 where
  pub target : List Item
  pub rows : List Row
  pub secrets : List ℕ

-- columns of whole numbers over one denominator, in each one number for each of so many secrets
pub record GridTree : Type 0 where
  pub over : ℕ
  pub rows : ℕ
  pub columns : List (List ℕ)

-- the probability that a secret shows a trace
abbrev pub cell : ChannelTree → Row → ℕ → Share
cell c row x = share_at c.rows row x

-- its denominator in lowest terms
abbrev pub cell_den : ChannelTree → Row → ℕ → ℕ
cell_den c row x = reduced_den (pos (cell c row x).part) (cell c row x).whole

-- the least common denominator of all cells
abbrev pub denominator : ChannelTree → ℕ
denominator c = common_multiple (flat_map (λ row. map (cell_den c row) c.secrets) c.rows)

-- the column of a trace, in n-ths
abbrev pub column_in : ℕ → ChannelTree → Row → List ℕ
column_in n c row = map (λ x. parts_of n (cell c row x).part (cell c row x).whole) c.secrets

-- the channel in whole numbers over that denominator
abbrev pub channel_grid : ChannelTree → GridTree
channel_grid c = record { over = denominator c; rows = length c.secrets; columns = map (column_in (denominator c) c) c.rows }

-- the Bayes capacity, over the denominator: the sum of the columns' greatest cells, 0 in a column of none
abbrev pub capacity_of : GridTree → ℕ
capacity_of g = sum_by (foldr max 0) g.columns
