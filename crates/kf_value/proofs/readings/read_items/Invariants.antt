use Rattle.std.proofs.Common.{map, drop}
use Rattle.kf_value.proofs.Items.{item_type}
use Rattle.kf_value.proofs.ReadingRows.{RowLeft}
use Rattle.kf_value.proofs.readings.read_items.Given as goal

abbrev pub invariant-loop-item : goal.invariant-loop-item
invariant-loop-item l = RowLeft (map item_type l.items) (map item_type (drop l.item-index l.items)) l.bytes l.rest l.n
