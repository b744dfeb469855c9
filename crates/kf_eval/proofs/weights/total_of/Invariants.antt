use Rattle.std.proofs.Common.{◌≡◌, ◌+◌, map, drop}
use Rattle.kf_core.specs.Choices.{total}
use Rattle.kf_eval.specs.Choices.{weighted_tree}
use Rattle.kf_eval.proofs.weights.total_of.Given as goal

abbrev pub invariant-loop-item : goal.invariant-loop-item
invariant-loop-item l = l.total + total (map weighted_tree (drop l.item-index l.items)) ≡ total (map weighted_tree l.items)
