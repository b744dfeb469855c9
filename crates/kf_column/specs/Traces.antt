-- Believed: traces with their columns, their order, and what each value's share of a trace is.
use Rattle.std.specs.Prelude.{ℕ, List, map, sum_by}
use Rattle.std.specs.declared.cmp.Ordering.{Ordering}
use Rattle.kf_value.specs.Values.{ValueTree, order, lexicographic}
use Rattle.kf_column.specs.declared.entry.Entry.{Entry}
use Rattle.kf_column.specs.Columns.{weight_at}

-- a trace, and its column of weights
pub record Row : Type 0 where
  pub trace : List ValueTree
  pub column : List Entry

-- by the first value that differs; a proper prefix comes first
abbrev pub trace_order : List ValueTree → List ValueTree → Ordering
trace_order t u = lexicographic (map order t) u

-- the weight of a value over all traces
abbrev pub value_weight : List Row → ℕ → ℕ
value_weight rows x = sum_by (λ r. weight_at r.column x) rows

-- a weight, and the whole by which it is divided
pub record Share : Type 0 where
  pub part : ℕ
  pub whole : ℕ

-- a conditional probability: the joint weight of a trace and a value, of the value's weight over all traces
abbrev pub share_at : List Row → Row → ℕ → Share
share_at rows row x = record { part = weight_at row.column x; whole = value_weight rows x }
