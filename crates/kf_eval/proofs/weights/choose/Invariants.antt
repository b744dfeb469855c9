use Rattle.std.proofs.Common.{map, drop}
use Rattle.kf_value.specs.Shapes.{shape_types}
use Rattle.kf_core.specs.Runs.{store_at}
use Rattle.kf_core.specs.Views.{dx_case_tree}
use Rattle.kf_eval.specs.Kinds.{shape_kinds}
use Rattle.kf_eval.proofs.Placing.{trees}
use Rattle.kf_eval.proofs.Weighing.{CasesSoFar}
use Rattle.kf_eval.proofs.weights.choose.Given as goal

abbrev pub invariant-loop-case : goal.invariant-loop-case
invariant-loop-case l =
    CasesSoFar (shape_kinds l.shape) (store_at (shape_types l.shape) l.store) (map dx_case_tree l.cases) (map dx_case_tree (drop l.case-index l.cases)) (trees l.items.items) l.case-index
