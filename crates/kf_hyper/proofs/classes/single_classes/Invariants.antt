use Rattle.std.proofs.Common.{◌≡◌, ◌++◌, map}
use Rattle.std.specs.Vec.Iter.{into_iter_items}
use Rattle.kf_column.specs.Classes.{ClassesOf}
use Rattle.kf_hyper.specs.ClassViews.{class_of}
use Rattle.kf_hyper.proofs.classes.single_classes.Given as goal

abbrev pub invariant-loop-column : goal.invariant-loop-column
invariant-loop-column l = record {
  classes : ClassesOf l.yielded (map class_of l.classes.items);
  whole : l.yielded ++ into_iter_items l.column-iterator ≡ l.fn.columns.items;
}
