use Rattle.std.proofs.Common.{take}
use Rattle.kf_value.specs.Shapes.{shape_size, shape_types}
use Rattle.kf_core.specs.Views.{dx_tree}
use Rattle.kf_run.specs.Following.{shown_to}
use Rattle.kf_eval.specs.Memos.{IsMemoOf}
use Rattle.kf_run.specs.Spreading.{AreSpread}
use Rattle.kf_run.proofs.steps.show.Given as goal

abbrev pub invariant-loop-column : goal.invariant-loop-column
invariant-loop-column l = record {
  memo : IsMemoOf l.shape (dx_tree l.dist) l.memo;
  spread : AreSpread (shown_to (shape_types l.shape) l.into (dx_tree l.dist)) (shape_size l.shape) (take l.column-index l.columns.columns) l.list.items;
}
