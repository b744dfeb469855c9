use Rattle.std.proofs.Common.{◌%◌, map, drop}
use Rattle.kf_value.specs.TypeViews.{type_tree}
use Rattle.kf_value.proofs.Finding.{PartsFound, ElementsFound}
use Rattle.kf_value.proofs.nth.+value_at.Given as goal

abbrev pub invariant-parts_at-loop-ty : goal.invariant-parts_at-loop-ty
invariant-parts_at-loop-ty l = PartsFound (map type_tree l.types) l.n (map type_tree (drop l.ty-index l.types)) l.parts.items (l.n % l.weight) l.weight

abbrev pub invariant-elements_at-loop-k : goal.invariant-elements_at-loop-k
invariant-elements_at-loop-k l = ElementsFound (type_tree l.base) l.n l.k l.elements.items l.left
