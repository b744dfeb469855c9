use Rattle.std.proofs.Common.{map, drop}
use Rattle.kf_value.specs.TypeViews.{type_tree}
use Rattle.kf_value.proofs.Widening.{CountedSoFar}
use Rattle.kf_value.proofs.shape.store_count.Given as goal

abbrev pub invariant-loop-ty : goal.invariant-loop-ty
invariant-loop-ty l = CountedSoFar (map type_tree l.types) (map type_tree (drop l.ty-index l.types)) l.stores
