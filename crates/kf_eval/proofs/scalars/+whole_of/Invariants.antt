use Rattle.std.proofs.Common.{map, drop}
use Rattle.kf_value.specs.Shapes.{shape_types}
use Rattle.kf_value.specs.Values.{Whole}
use Rattle.kf_core.specs.Runs.{store_at}
use Rattle.kf_core.specs.Views.{ex_tree}
use Rattle.kf_eval.specs.Kinds.{shape_kinds}
use Rattle.kf_eval.proofs.Comparing.{PairsSoFar}
use Rattle.kf_eval.proofs.Finding.{MembersSoFar}
use Rattle.kf_eval.proofs.scalars.+whole_of.Given as goal

abbrev pub invariant-are_same-loop-i : goal.invariant-are_same-loop-i
invariant-are_same-loop-i l =
    PairsSoFar (store_at (shape_types l.shape) l.store) (shape_kinds l.shape) (map ex_tree l.xs) (map ex_tree l.ys) (map ex_tree (drop l.i l.xs)) (map ex_tree (drop l.i l.ys)) l.same

abbrev pub invariant-is_listed-loop-member : goal.invariant-is_listed-loop-member
invariant-is_listed-loop-member l =
    MembersSoFar (store_at (shape_types l.shape) l.store) (Whole l.value) (shape_kinds l.shape) (map ex_tree l.member-items) (map ex_tree (drop l.member-index l.member-items)) l.found
