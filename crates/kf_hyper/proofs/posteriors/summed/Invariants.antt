use Rattle.std.proofs.Common.{◌≡◌, ◌++◌, All, map}
use Rattle.std.specs.Vec.Iter.{into_iter_items}
use Rattle.kf_column.specs.Averages.{joint_column}
use Rattle.kf_hyper.specs.ClassViews.{inner_of, class_of}
use Rattle.kf_column.specs.Classes.{IsWhole}
use Rattle.kf_hyper.proofs.posteriors.summed.Given as goal

abbrev pub invariant-loop-class : goal.invariant-loop-class
invariant-loop-class l = record {
  whole : All IsWhole (map class_of (into_iter_items l.class-iterator));
  summed : l.columns.items ++ map joint_column (map inner_of (into_iter_items l.class-iterator)) ≡ map joint_column (map inner_of l.fn.classes.items);
}
