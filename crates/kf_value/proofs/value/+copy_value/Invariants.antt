use Rattle.std.proofs.Common.{◌≡◌, map, take}
use Rattle.kf_value.specs.Views.{value_tree}
use Rattle.kf_value.proofs.value.+copy_value.Given as goal

abbrev pub invariant-ValueList::copy-loop-value : goal.invariant-ValueList::copy-loop-value
invariant-ValueList::copy-loop-value l = map value_tree l.items.items ≡ map value_tree (take l.value-index l.value-items)
