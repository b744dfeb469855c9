use Rattle.std.proofs.Common.{map, drop}
use Rattle.kf_value.specs.TypeViews.{type_tree}
use Rattle.kf_value.proofs.Widening.{ListedSoFar, place_size, place_weight}
use Rattle.kf_value.proofs.shape.Shape.new.Given as goal

abbrev pub invariant-loop-ty : goal.invariant-loop-ty
invariant-loop-ty l =
    ListedSoFar (map type_tree l.ty-items) (map type_tree (drop l.ty-index l.ty-items)) (map place_size l.places.items) (map place_weight l.places.items) l.weight
