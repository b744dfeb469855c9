-- For bodies: the rows of a trace table, and what they keep.
use Rattle.std.specs.Prelude.{◌≡◌, ℕ, ◌<◌, ◌≤◌, List, All, map, sum_by}
use Rattle.std.specs.List.Sorted.{IsStrictlySortedBy}
use Rattle.kf_frac.specs.Fractions.{limit}
use Rattle.kf_value.specs.Views.{value_trees}
use Rattle.kf_hyper.specs.declared.traces.TraceRow.{TraceRow}
use Rattle.kf_column.specs.Columns.{total}
use Rattle.kf_column.specs.Shapes.{IsBelow}
use Rattle.kf_column.specs.Traces.{Row, trace_order}

abbrev pub table_row : TraceRow → Row
table_row r = record { trace = value_trees r.trace; column = r.column }

-- the rows of a target of `size` values, over a scale
pub record IsTable (size scale : ℕ) (rows : List Row) : Type 0 where
  pub some : 0 < scale
  pub narrow : scale ≤ limit
  pub ascending : IsStrictlySortedBy trace_order (map (λ r. r.trace) rows)
  pub within : All (λ r. IsBelow size r.column) rows
  pub whole : sum_by (λ r. total r.column) rows ≡ scale
