-- Believed: channels one behind the other, side by side, and one or the other (Alvim et al. 2020: cascade, parallel composition, visible choice).
use Rattle.std.specs.Prelude.{◌≡◌, ℕ, suc, ◌+◌, ◌*◌, ◌-◌, ◌/◌, ◌≤◌, min, Bool, true, List, [], ◌∷◌, ◌++◌, map, flat_map, length}
use Rattle.std.specs.Prelude.{slice_index, slice_index_or, is_some, unwrap_or, option_map, None, Some, if◌then◌else◌, Result, Ok, Err}
use Rattle.std.specs.List.{list_all, range_with_len, zip}
use Rattle.std.specs.Ordering.{is_eq}
use Rattle.std.specs.declared.option.Option.{Option}
use Rattle.kf_frac.specs.Divisors.{lcm_of}
use Rattle.kf_frac.specs.Fractions.{limit}
use Rattle.kf_frac.specs.Rules.{Unless}
use Rattle.kf_value.specs.Values.{ValueTree}
use Rattle.kf_value.specs.Targets.{target_values}
use Rattle.kf_column.specs.Traces.{trace_order}
use Rattle.kf_capacity.specs.Grids.{ChannelTree, GridTree, channel_grid}
use mathlib.Core.List.{foldr}

-- why two channels aren't put together: some trace of the first isn't a secret of the second, they are about other targets, their secrets
-- differ, there would be so many cells, or a denominator passes 2^127 - 1
pub data ComposeFault : Type 0 where
  Fit : ComposeFault
  Targets : ComposeFault
  Rows : ComposeFault
  Cells : ℕ → ComposeFault
  Wide : ComposeFault

-- ---- one behind the other: what the first shows is the secret of the second

-- the values of each secret, one for each item of the target
abbrev pub secret_values : ChannelTree → List (List ValueTree)
secret_values c = map (λ x. slice_index_or (target_values c.target) x []) c.secrets

-- the place of the first list that is equal to these values
abbrev pub place_of : List (List ValueTree) → List ValueTree → Option ℕ
place_of lists vs = foldr (λ ws later. if is_eq (trace_order ws vs) then Some 0 else option_map (λ n. suc n) later) None lists

-- which secret of the second channel each trace of the first one is, by its values
abbrev pub named : ChannelTree → ChannelTree → List (Option ℕ)
named c d = map (λ row. place_of (secret_values d) row.trace) c.rows

-- each trace is one
abbrev pub fits : ChannelTree → ChannelTree → Bool
fits c d = list_all is_some (named c d)

abbrev pub places : ChannelTree → ChannelTree → List ℕ
places c d = map (λ place. unwrap_or place 0) (named c d)

-- the secret i to a column of the second grid: the sum over the first grid's columns of its cell there, times the cell in the row of
-- that column's place
abbrev pub through : List (List ℕ) → List ℕ → List ℕ → ℕ → ℕ
through [] places column i = 0
through (first ∷ others) [] column i = 0
through (first ∷ others) (place ∷ places) column i = slice_index first i * slice_index column place + through others places column i

abbrev pub cascade_grid : GridTree → List ℕ → GridTree → GridTree
cascade_grid g places h = record {
  over = g.over * h.over;
  rows = g.rows;
  columns = map (λ column. map (through g.columns places column) (range_with_len 0 g.rows)) h.columns;
}

-- this grid, where its denominator is at most 2^127 - 1
abbrev pub Narrow : GridTree → Result GridTree ComposeFault → Type 0
Narrow g = Unless (g.over ≤ limit) (Err Wide) (λ r. r ≡ Ok g)

-- the grid, or why there is none
abbrev pub IsCascade : ChannelTree → ChannelTree → Result GridTree ComposeFault → Type 0
IsCascade c d = Unless (fits c d ≡ true) (Err Fit) (Narrow (cascade_grid (channel_grid c) (places c d) (channel_grid d)))

-- ---- side by side: both are seen

-- each column of the first with each of the second, multiplied row by row
abbrev pub parallel_grid : GridTree → GridTree → GridTree
parallel_grid g h = record {
  over = g.over * h.over;
  rows = g.rows;
  columns = flat_map (λ column. map (λ other. map (λ p. p.0 * p.1) (zip column other)) h.columns) g.columns;
}

-- how many cells that has
abbrev pub cells_of : ChannelTree → ChannelTree → ℕ
cells_of c d = length c.secrets * length c.rows * length d.rows

-- the two must have the same secrets, of one target
abbrev pub WithSameRows : ChannelTree → ChannelTree → (Result GridTree ComposeFault → Type 0) → Result GridTree ComposeFault → Type 0
WithSameRows c d next = Unless (c.target ≡ d.target) (Err Targets) (Unless (c.secrets ≡ d.secrets) (Err Rows) next)

-- the grid, or why there is none
abbrev pub IsParallel : ChannelTree → ChannelTree → Result GridTree ComposeFault → Type 0
IsParallel c d =
    WithSameRows c d
    (Unless (cells_of c d ≤ 4000000) (Err (Cells (min limit (cells_of c d)))) (Narrow (parallel_grid (channel_grid c) (channel_grid d))))

-- ---- one or the other, and it is seen which

-- a column times a number
abbrev pub times : ℕ → List ℕ → List ℕ
times factor column = map (λ n. n * factor) column

-- the first with probability num / den, and its columns first
abbrev pub choice_grid : ℕ → ℕ → GridTree → GridTree → GridTree
choice_grid num den g h =
    let common = lcm_of g.over h.over in
    record {
      over = common * den;
      rows = g.rows;
      columns = map (times (common / g.over * num)) g.columns ++ map (times (common / h.over * (den - num))) h.columns;
    }

-- the grid, or why there is none
abbrev pub IsChoice : ℕ → ℕ → ChannelTree → ChannelTree → Result GridTree ComposeFault → Type 0
IsChoice num den c d = WithSameRows c d (Narrow (choice_grid num den (channel_grid c) (channel_grid d)))
