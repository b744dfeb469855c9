use Rattle.std.proofs.Common.{take}
use Rattle.kf_value.specs.Shapes.{shape_size}
use Rattle.kf_core.specs.Runs.{copied, stay}
use Rattle.kf_core.specs.Views.{program_tree}
use Rattle.kf_run.specs.Spreading.{AreSpread}
use Rattle.kf_run.proofs.steps.copy.Given as goal

abbrev pub invariant-loop-column : goal.invariant-loop-column
invariant-loop-column l = AreSpread (λ n. stay (copied (program_tree l.program) n)) (shape_size l.program.shape) (take l.column-index l.columns.columns) l.list.items
