use Rattle.std.proofs.Common.{[], map, take}
use Rattle.kf_value.specs.Shapes.{shape_size, shape_types}
use Rattle.kf_column.specs.Shapes.{IsBelow}
use Rattle.kf_core.specs.Runs.{assigned}
use Rattle.kf_core.specs.Views.{dx_tree}
use Rattle.kf_core.specs.Leaks.{silent}
use Rattle.kf_eval.specs.Memos.{IsMemoOf}
use Rattle.kf_run.specs.Ways.{IsShared, along}
use Rattle.kf_run.proofs.assigned.move_column.Given as goal

abbrev pub invariant-loop-entry : goal.invariant-loop-entry
invariant-loop-entry l = record {
  memo : IsMemoOf l.shape (dx_tree l.dist) l.memo;
  shared : IsShared (assigned silent (shape_types l.shape) l.slot (dx_tree l.dist)) (take l.entry-index l.column) (map (along []) l.behind.items);
  below : IsBelow (shape_size l.shape) l.behind.items;
}
