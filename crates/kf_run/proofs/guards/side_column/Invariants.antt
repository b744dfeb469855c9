use Rattle.std.proofs.Common.{true, false, [], ◌∷◌, map, take}
use Rattle.kf_value.specs.Shapes.{shape_size, shape_types}
use Rattle.kf_value.specs.Values.{Truth}
use Rattle.kf_column.specs.Shapes.{IsBelow}
use Rattle.kf_core.specs.Runs.{tried}
use Rattle.kf_core.specs.Views.{dx_tree}
use Rattle.kf_push.specs.Following.{side}
use Rattle.kf_eval.specs.Memos.{IsMemoOf}
use Rattle.kf_run.specs.Ways.{IsShared, along}
use Rattle.kf_run.proofs.guards.side_column.Given as goal

abbrev pub invariant-loop-entry : goal.invariant-loop-entry
invariant-loop-entry l = record {
  memo : IsMemoOf l.shape (dx_tree l.dist) l.memo;
  taken : IsShared (side true (tried (shape_types l.shape) (dx_tree l.dist))) (take l.entry-index l.column) (map (along (Truth true ∷ [])) l.taken.items);
  left : IsShared (side false (tried (shape_types l.shape) (dx_tree l.dist))) (take l.entry-index l.column) (map (along (Truth false ∷ [])) l.left.items);
  below_taken : IsBelow (shape_size l.shape) l.taken.items;
  below_left : IsBelow (shape_size l.shape) l.left.items;
}
