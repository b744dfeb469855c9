use Rattle.std.proofs.Common.{◌≡◌, ◌<◌, ℕ, ◌++◌, true, false, [], ◌∷◌, map, drop}
use Rattle.std.specs.List.{flat_map}
use Rattle.kf_value.specs.Values.{Truth}
use Rattle.kf_column.specs.Shapes.{IsBelow}
use Rattle.kf_eval.specs.Choices.{weighted_items, weighted_tree, weighted_trees}
use Rattle.kf_run.specs.Ways.{along, sides}
use Rattle.kf_run.proofs.guards.add_sides.Given as goal

abbrev pub invariant-loop-weighted : goal.invariant-loop-weighted
invariant-loop-weighted l = record {
  taken : map (along (Truth true ∷ [])) l.taken.items ++ flat_map (sides true l.store l.share) (map weighted_tree (drop l.weighted-index (weighted_items l.choice.items)))
      ≡ map (along (Truth true ∷ [])) l.initial.taken.items ++ flat_map (sides true l.store l.share) (weighted_trees l.choice);
  left : map (along (Truth false ∷ [])) l.left.items ++ flat_map (sides false l.store l.share) (map weighted_tree (drop l.weighted-index (weighted_items l.choice.items)))
      ≡ map (along (Truth false ∷ [])) l.initial.left.items ++ flat_map (sides false l.store l.share) (weighted_trees l.choice);
  below_taken : (size : ℕ) → l.store < size → IsBelow size l.initial.taken.items → IsBelow size l.taken.items;
  below_left : (size : ℕ) → l.store < size → IsBelow size l.initial.left.items → IsBelow size l.left.items;
}
