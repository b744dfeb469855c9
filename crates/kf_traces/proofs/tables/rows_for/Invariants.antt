use Rattle.std.proofs.Common.{◌≡◌, length, map}
use Rattle.std.specs.Vec.Iter.{into_iter_items, into_iter_len}
use Rattle.kf_value.specs.Shapes.{shape_size}
use Rattle.kf_value.specs.Numbers.{target_size}
use Rattle.kf_value.specs.Views.{items_of}
use Rattle.kf_core.specs.Joint.{target_number}
use Rattle.kf_core.specs.Views.{program_tree}
use Rattle.kf_hyper.specs.Tables.{table_row}
use Rattle.kf_traces.specs.Views.{traced_of}
use Rattle.kf_traces.proofs.TablingRows.{RowsOn}
use Rattle.kf_traces.proofs.tables.rows_for.Given as goal

abbrev pub invariant-loop-state : goal.invariant-loop-state
invariant-loop-state l = record {
  rows : RowsOn (target_number (program_tree l.program)) (target_size (items_of l.program.target)) (shape_size l.program.shape) l.scale
      (map traced_of (into_iter_items l.state-iterator)) (map traced_of l.fn.states.items) (map table_row l.rows.items);
  long : into_iter_len l.state-iterator ≡ length (into_iter_items l.state-iterator);
}
