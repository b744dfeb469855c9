use Rattle.std.proofs.Common.{[], map, take}
use Rattle.kf_value.specs.Shapes.{shape_size, shape_types}
use Rattle.kf_column.specs.Shapes.{IsBelow}
use Rattle.kf_run.specs.Forgetting.{forgetting}
use Rattle.kf_value.specs.Views.{value_tree}
use Rattle.kf_run.specs.Ways.{IsShared, along}
use Rattle.kf_run.proofs.forgotten.forget_column.Given as goal

abbrev pub invariant-loop-entry : goal.invariant-loop-entry
invariant-loop-entry l = record {
  shared : IsShared (forgetting (shape_types l.shape) l.slot (value_tree l.value)) (take l.entry-index l.column) (map (along []) l.behind.items);
  below : IsBelow (shape_size l.shape) l.behind.items;
}
