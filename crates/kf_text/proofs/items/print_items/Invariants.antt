use Rattle.std.proofs.Common.{◌≡◌, ◌++◌, map, drop}
use Rattle.std.specs.List.{flat_map}
use Rattle.kf_value.specs.Targets.{target_text}
use Rattle.kf_value.specs.TypeViews.{item_of}
use Rattle.kf_text.proofs.Printing.{further_text}
use Rattle.kf_text.proofs.items.print_items.Given as goal

abbrev pub invariant-loop-item : goal.invariant-loop-item
invariant-loop-item l = l.out.items ++ flat_map further_text (drop l.item-index l.others) ≡ l.fn.out.items ++ target_text (map item_of l.fn.items)
