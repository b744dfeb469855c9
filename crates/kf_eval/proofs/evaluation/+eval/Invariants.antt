use Rattle.std.proofs.Common.{map, drop}
use Rattle.kf_value.specs.Shapes.{shape_types}
use Rattle.kf_core.specs.Runs.{store_at}
use Rattle.kf_core.specs.Views.{ex_tree}
use Rattle.kf_eval.specs.Kinds.{shape_kinds}
use Rattle.kf_eval.proofs.Checking.{ValuesSoFar}
use Rattle.kf_eval.proofs.evaluation.+eval.Given as goal

abbrev pub invariant-values_of-loop-ex : goal.invariant-values_of-loop-ex
invariant-values_of-loop-ex l = ValuesSoFar (shape_kinds l.shape) (store_at (shape_types l.shape) l.store) (map ex_tree l.exs) (map ex_tree (drop l.ex-index l.exs)) l.values.items
