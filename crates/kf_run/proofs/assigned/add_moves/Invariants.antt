use Rattle.std.proofs.Common.{◌≡◌, ◌++◌, [], map, drop}
use Rattle.std.specs.List.{flat_map}
use Rattle.kf_value.specs.Shapes.{shape_size, shape_types}
use Rattle.kf_column.specs.Shapes.{IsBelow}
use Rattle.kf_eval.specs.Choices.{weighted_items, weighted_tree, weighted_trees}
use Rattle.kf_run.specs.Ways.{along, moves}
use Rattle.kf_run.proofs.assigned.add_moves.Given as goal

abbrev pub invariant-loop-weighted : goal.invariant-loop-weighted
invariant-loop-weighted l = record {
  added : map (along []) l.behind.items ++ flat_map (moves (shape_types l.shape) l.slot l.store l.share) (map weighted_tree (drop l.weighted-index (weighted_items l.choice.items)))
      ≡ map (along []) l.initial.behind.items ++ flat_map (moves (shape_types l.shape) l.slot l.store l.share) (weighted_trees l.choice);
  below : IsBelow (shape_size l.shape) l.initial.behind.items → IsBelow (shape_size l.shape) l.behind.items;
}
