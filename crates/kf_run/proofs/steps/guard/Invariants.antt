use Rattle.std.proofs.Common.{true, false, take}
use Rattle.kf_value.specs.Shapes.{shape_size, shape_types}
use Rattle.kf_core.specs.Runs.{tried}
use Rattle.kf_core.specs.Views.{dx_tree}
use Rattle.kf_push.specs.Following.{side}
use Rattle.kf_eval.specs.Memos.{IsMemoOf}
use Rattle.kf_run.specs.Spreading.{AreSpread}
use Rattle.kf_run.proofs.steps.guard.Given as goal

abbrev pub invariant-loop-column : goal.invariant-loop-column
invariant-loop-column l = record {
  memo : IsMemoOf l.shape (dx_tree l.dist) l.memo;
  taken : AreSpread (side true (tried (shape_types l.shape) (dx_tree l.dist))) (shape_size l.shape) (take l.column-index l.columns.columns) l.held.items;
  left : AreSpread (side false (tried (shape_types l.shape) (dx_tree l.dist))) (shape_size l.shape) (take l.column-index l.columns.columns) l.failed.items;
}
