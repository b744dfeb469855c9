use Rattle.std.proofs.Common.{take}
use Rattle.kf_value.specs.Shapes.{shape_size, shape_types}
use Rattle.kf_core.specs.Runs.{assigned}
use Rattle.kf_core.specs.Views.{dx_tree}
use Rattle.kf_core.specs.Leaks.{silent}
use Rattle.kf_eval.specs.Memos.{IsMemoOf}
use Rattle.kf_run.specs.Spreading.{AreSpread}
use Rattle.kf_run.proofs.steps.spread.Given as goal

abbrev pub invariant-loop-column : goal.invariant-loop-column
invariant-loop-column l = record {
  memo : IsMemoOf l.shape (dx_tree l.dist) l.memo;
  spread : AreSpread (assigned silent (shape_types l.shape) l.slot (dx_tree l.dist)) (shape_size l.shape) (take l.column-index l.columns.columns) l.list.items;
}
