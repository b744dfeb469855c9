use Rattle.std.proofs.Common.{◌%◌, map, drop}
use Rattle.kf_value.proofs.Finding.{PartsFound}
use Rattle.kf_value.proofs.Items.{item_type}
use Rattle.kf_value.proofs.prints.values_at.Given as goal

abbrev pub invariant-loop-item : goal.invariant-loop-item
invariant-loop-item l = PartsFound (map item_type l.items) l.n (map item_type (drop l.item-index l.items)) l.values.items (l.n % l.weight) l.weight
