use Rattle.std.proofs.Common.{map, drop, take}
use Rattle.kf_value.specs.TypeViews.{item_of}
use Rattle.kf_ast.specs.Views.{item_tree}
use Rattle.kf_check.specs.Variables.{variables_in}
use Rattle.kf_check.proofs.ItemTurns.{ItemsBefore}
use Rattle.kf_check.proofs.targets.check_items.Given as goal

abbrev pub invariant-loop-i : goal.invariant-loop-i
invariant-loop-i l = ItemsBefore (variables_in l.declared) (map item_tree l.items) (map item_tree (take l.i l.items)) (map item_tree (drop l.i l.items)) l.read.copies.items (map item_of l.read.items.items) l.read.slots.items l.read.stores
