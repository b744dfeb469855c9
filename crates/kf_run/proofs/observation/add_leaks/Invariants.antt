use Rattle.std.proofs.Common.{◌≡◌, ◌<◌, ◌++◌, All, map, drop}
use Rattle.std.specs.List.{flat_map}
use Rattle.kf_value.specs.Shapes.{shape_size, shape_types}
use Rattle.kf_eval.specs.Choices.{weighted_items, weighted_tree, weighted_trees}
use Rattle.kf_run.specs.Ways.{leaked, shows}
use Rattle.kf_run.proofs.observation.add_leaks.Given as goal

abbrev pub invariant-loop-weighted : goal.invariant-loop-weighted
invariant-loop-weighted l = record {
  added : map leaked l.leaks.items ++ flat_map (shows (shape_types l.shape) l.into l.store l.share) (map weighted_tree (drop l.weighted-index (weighted_items l.choice.items)))
      ≡ map leaked l.initial.leaks.items ++ flat_map (shows (shape_types l.shape) l.into l.store l.share) (weighted_trees l.choice);
  below : All (λ m. m.to < shape_size l.shape) l.initial.leaks.items → All (λ m. m.to < shape_size l.shape) l.leaks.items;
}
