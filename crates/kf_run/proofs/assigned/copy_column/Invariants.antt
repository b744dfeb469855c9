use Rattle.std.proofs.Common.{[], map, take}
use Rattle.kf_value.specs.Shapes.{shape_size}
use Rattle.kf_column.specs.Shapes.{IsBelow}
use Rattle.kf_core.specs.Runs.{copied, stay}
use Rattle.kf_core.specs.Views.{program_tree}
use Rattle.kf_run.specs.Ways.{IsShared, along}
use Rattle.kf_run.proofs.assigned.copy_column.Given as goal

abbrev pub invariant-loop-entry : goal.invariant-loop-entry
invariant-loop-entry l = record {
  shared : IsShared (λ n. stay (copied (program_tree l.program) n)) (take l.entry-index l.column) (map (along []) l.behind.items);
  below : IsBelow (shape_size l.program.shape) l.behind.items;
}
