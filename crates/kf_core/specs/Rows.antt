-- Believed: the rows of a joint: its traces of some weight, each with its column; and the hyper of a joint.
use Rattle.std.specs.Prelude.{◌≡◌, ◌↔◌, ℕ, List, Contains, map, All, ◌<◌}
use Rattle.std.specs.List.Sorted.{IsStrictlySortedBy}
use Rattle.kf_value.specs.Values.{ValueTree}
use Rattle.kf_core.specs.Joint.{Cell, weight_of, trace_weight}
use Rattle.kf_column.specs.Columns.{IsColumn, weight_at}
use Rattle.kf_column.specs.Hypers.{Inner, IsHyper}
use Rattle.kf_column.specs.Traces.{Row, trace_order}

-- each trace of some weight once, in ascending order, and what the joint gives to each value with it
pub record AreRowsOf (joint : List Cell) (rows : List Row) : Type 0 where
  pub ascending : IsStrictlySortedBy trace_order (map (λ r. r.trace) rows)
  pub all : (t : List ValueTree) → Contains (map (λ r. r.trace) rows) t ↔ (0 < trace_weight joint t)
  pub columns : All (λ r. IsColumn r.column) rows
  pub weights : All (λ r. (x : ℕ) → weight_at r.column x ≡ weight_of joint r.trace x) rows

-- the columns of its traces, abstracted to their classes (Gibbons et al. 2020, from traces to a hyper)
pub record IsHyperOf (joint : List Cell) (inners : List Inner) : Type 0 where
  pub rows : List Row
  pub are_rows : AreRowsOf joint rows
  pub is_hyper : IsHyper (map (λ r. r.column) rows) inners
