use Rattle.std.proofs.Common.{take}
use Rattle.kf_value.specs.Shapes.{shape_size, shape_types}
use Rattle.kf_run.specs.Forgetting.{forgetting}
use Rattle.kf_value.specs.Views.{value_tree}
use Rattle.kf_run.specs.Spreading.{AreSpread}
use Rattle.kf_run.proofs.steps.set_to.Given as goal

abbrev pub invariant-loop-column : goal.invariant-loop-column
invariant-loop-column l = AreSpread (forgetting (shape_types l.shape) l.slot (value_tree l.value)) (shape_size l.shape) (take l.column-index l.columns.columns) l.list.items
