use Rattle.std.proofs.Common.{◌≡◌, map, take}
use Rattle.kf_value.specs.TypeViews.{type_tree}
use Rattle.kf_value.proofs.equality.+same_type.Given as goal

abbrev pub invariant-same_types-loop-i : goal.invariant-same_types-loop-i
invariant-same_types-loop-i l = map type_tree (take l.i l.xs) ≡ map type_tree (take l.i l.ys)
