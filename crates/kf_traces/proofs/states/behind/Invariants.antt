use Rattle.std.proofs.Common.{◌≡◌, map, take}
use Rattle.kf_value.specs.Views.{value_tree}
use Rattle.kf_traces.proofs.states.behind.Given as goal

abbrev pub invariant-loop-value : goal.invariant-loop-value
invariant-loop-value l = map value_tree l.longer.items ≡ map value_tree (take l.value-index l.trace)
