use Rattle.std.proofs.Common.{◌≡◌, ℕ, map, sum_by, take}
use Rattle.kf_value.specs.Numbers.{target_size}
use Rattle.kf_value.specs.Views.{items_of}
use Rattle.kf_column.specs.Columns.{weight_at, total}
use Rattle.kf_column.specs.Shapes.{IsBelow}
use Rattle.kf_hyper.specs.Sums.{ArePositive}
use Rattle.kf_column.specs.Traces.{value_weight}
use Rattle.kf_hyper.specs.Tables.{table_row}
use Rattle.kf_hyper.proofs.traces.TraceTable.average.Given as goal

abbrev pub invariant-loop-row : goal.invariant-loop-row
invariant-loop-row l = record {
  weights : (x : ℕ) → weight_at l.entries.items x ≡ value_weight (map table_row (take l.row-index l.self.rows)) x;
  totals : total l.entries.items ≡ sum_by (λ r. total r.column) (map table_row (take l.row-index l.self.rows));
  positive : ArePositive l.entries.items;
  below : IsBelow (target_size (items_of l.self.target)) l.entries.items;
}
