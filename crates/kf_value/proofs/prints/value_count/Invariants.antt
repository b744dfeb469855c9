use Rattle.std.proofs.Common.{map, drop}
use Rattle.kf_value.proofs.Items.{item_type}
use Rattle.kf_value.proofs.Widening.{CountedSoFar}
use Rattle.kf_value.proofs.prints.value_count.Given as goal

abbrev pub invariant-loop-item : goal.invariant-loop-item
invariant-loop-item l = CountedSoFar (map item_type l.items) (map item_type (drop l.item-index l.items)) l.count
