use Rattle.std.proofs.Common.{◌≡◌, map, drop}
use Rattle.kf_value.specs.Views.{value_tree}
use Rattle.kf_ops.specs.Values.{is_in}
use Rattle.kf_ops.proofs.sets.contains.Given as goal

-- looking through what is left gives the answer
abbrev pub invariant-loop-element : goal.invariant-loop-element
invariant-loop-element l = is_in (value_tree l.value) (map value_tree (drop l.element-index l.elements)) ≡ is_in (value_tree l.value) (map value_tree l.elements)
