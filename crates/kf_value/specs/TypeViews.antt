-- For bodies: what contracts see of types and of the items of targets.
use Rattle.std.specs.Prelude.{List}
use Rattle.kf_value.specs.declared.ty.Ty.{Ty, fold-Ty, Ty-F}
use Rattle.kf_value.specs.declared.ty.TyList.{TyList-F}
use Rattle.kf_value.specs.declared.target_item.TargetItem.{TargetItem}
use Rattle.kf_value.specs.Types.{TypeTree, Boolean, Range, TupleOf, SetOf, type_parts}
use Rattle.kf_value.specs.Targets.{Item}

-- a type of the program as a tree
abbrev pub type_step : Ty-F TypeTree (List TypeTree) → TypeTree
type_step Ty-F.Bool = Boolean
type_step (Ty-F.Int lo hi) = Range lo hi
type_step (Ty-F.Tuple ts) = TupleOf (type_parts ts)
type_step (Ty-F.Set base) = SetOf base.value

abbrev pub type_list_step : TyList-F TypeTree (List TypeTree) → List TypeTree
type_list_step l = l.items.items

abbrev pub type_tree : Ty → TypeTree
type_tree = fold-Ty TypeTree (List TypeTree) type_step type_list_step

-- an item of the program
abbrev pub item_of : TargetItem → Item
item_of i = record { initial = i.initial; name = i.name; ty = type_tree i.ty }
