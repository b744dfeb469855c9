-- For bodies: what a channel matrix keeps.
use Rattle.std.specs.Prelude.{◌≡◌, ℕ, ◌≤◌, List, map}
use Rattle.std.specs.List.Sorted.{IsStrictlySortedBy}
use Rattle.kf_frac.specs.Fractions.{limit}
use Rattle.kf_column.specs.declared.entry.Entry.{Entry}
use Rattle.kf_column.specs.Columns.{IsColumn, weight_at, total}
use Rattle.kf_column.specs.Shapes.{IsBelow}
use Rattle.kf_column.specs.Traces.{Row, trace_order, value_weight}

-- rows of distinct traces, and the secrets of a target of `size` values, each with its weight over all traces
pub record IsChannel (size : ℕ) (rows : List Row) (secrets : List Entry) : Type 0 where
  pub traces : IsStrictlySortedBy trace_order (map (λ r. r.trace) rows)
  pub column : IsColumn secrets
  pub within : IsBelow size secrets
  pub narrow : total secrets ≤ limit
  -- the weights of a secret's row sum to the secret's weight, by which its cells are divided
  pub whole : (x : ℕ) → value_weight rows x ≡ weight_at secrets x
