use Rattle.std.proofs.Common.{◌<◌, All, map, take}
use Rattle.kf_value.specs.Shapes.{shape_size, shape_types}
use Rattle.kf_core.specs.Views.{dx_tree}
use Rattle.kf_run.specs.Following.{shown_to}
use Rattle.kf_eval.specs.Memos.{IsMemoOf}
use Rattle.kf_run.specs.Ways.{IsShared, leaked}
use Rattle.kf_run.proofs.observation.show_column.Given as goal

abbrev pub invariant-loop-entry : goal.invariant-loop-entry
invariant-loop-entry l = record {
  memo : IsMemoOf l.shape (dx_tree l.dist) l.memo;
  shared : IsShared (shown_to (shape_types l.shape) l.into (dx_tree l.dist)) (take l.entry-index l.column) (map leaked l.leaks.items);
  below : All (λ m. m.to < shape_size l.shape) l.leaks.items;
}
