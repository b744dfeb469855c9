use Rattle.std.proofs.Common.{◌≡◌, map, take}
use Rattle.kf_value.specs.Views.{value_tree}
use Rattle.kf_core.specs.Choices.{once}
use Rattle.kf_eval.proofs.Placing.{trees}
use Rattle.kf_eval.proofs.weights.each_once.Given as goal

abbrev pub invariant-loop-value : goal.invariant-loop-value
invariant-loop-value l = trees l.items.items ≡ map once (map value_tree (take l.value-index l.values))
