use Rattle.std.proofs.Common.{◌≡◌, map, take}
use Rattle.kf_value.specs.TypeViews.{item_of}
use Rattle.kf_value.proofs.target_item.TargetItemList.copy.Given as goal

abbrev pub invariant-loop-item : goal.invariant-loop-item
invariant-loop-item l = map item_of l.items.items ≡ map item_of (take l.item-index l.item-items)
