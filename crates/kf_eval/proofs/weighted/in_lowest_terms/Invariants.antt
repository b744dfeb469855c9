use Rattle.std.proofs.Common.{◌≡◌, ◌++◌, map, take, drop}
use Rattle.kf_eval.proofs.Placing.{parted_by}
use Rattle.kf_eval.proofs.weighted.in_lowest_terms.Given as goal

abbrev pub invariant-loop-item : goal.invariant-loop-item
invariant-loop-item l = l.item-items ≡ map (parted_by l.factor) (take l.item-index l.fn.items.items) ++ drop l.item-index l.fn.items.items
