-- For bodies: what contracts see of values, kinds, lists and targets.
use Rattle.std.specs.Prelude.{List, map, ℕ, [], ◌++◌, codes, if◌then◌else◌}
use Rattle.kf_value.specs.declared.value.Value.{Value, fold-Value, Value-F}
use Rattle.kf_value.specs.declared.value.ValueList.{ValueList, ValueList-F, out-ValueList}
use Rattle.kf_value.specs.declared.kind.Kind.{Kind, fold-Kind, Kind-F}
use Rattle.kf_value.specs.declared.kind.KindList.{KindList, KindList-F, out-KindList}
use Rattle.kf_value.specs.declared.ty.Ty.{Ty}
use Rattle.kf_value.specs.declared.ty.TyList.{TyList, out-TyList}
use Rattle.kf_value.specs.declared.target.Target.{Target}
use Rattle.kf_value.specs.Values.{ValueTree, Truth, Whole, Tuple, Set, parts}
use Rattle.kf_value.specs.Kinds.{KindTree, TruthKind, WholeKind, TupleKind, SetKind, kind_parts}
use Rattle.kf_value.specs.Types.{TypeTree}
use Rattle.kf_value.specs.Targets.{Item}
use Rattle.kf_value.specs.TypeViews.{type_tree, item_of}

-- a value of the program as a tree
abbrev pub value_step : Value-F ValueTree (List ValueTree) → ValueTree
value_step (Value-F.Bool b) = Truth b
value_step (Value-F.Int i) = Whole i
value_step (Value-F.Tuple vs) = Tuple (parts vs)
value_step (Value-F.Set vs) = Set (parts vs)

abbrev pub value_list_step : ValueList-F ValueTree (List ValueTree) → List ValueTree
value_list_step l = l.items.items

abbrev pub value_tree : Value → ValueTree
value_tree = fold-Value ValueTree (List ValueTree) value_step value_list_step

abbrev pub value_items : ValueList → List Value
value_items l = (out-ValueList l).items.items

abbrev pub value_trees : ValueList → List ValueTree
value_trees l = map value_tree (value_items l)

-- a kind of the program as a tree
abbrev pub kind_step : Kind-F KindTree (List KindTree) → KindTree
kind_step Kind-F.Bool = TruthKind
kind_step Kind-F.Int = WholeKind
kind_step (Kind-F.Tuple ks) = TupleKind (kind_parts ks)
kind_step (Kind-F.Set of) = SetKind of.value

abbrev pub kind_list_step : KindList-F KindTree (List KindTree) → List KindTree
kind_list_step l = l.items.items

abbrev pub kind_tree : Kind → KindTree
kind_tree = fold-Kind KindTree (List KindTree) kind_step kind_list_step

abbrev pub kind_items : KindList → List Kind
kind_items l = (out-KindList l).items.items

abbrev pub kind_trees : KindList → List KindTree
kind_trees l = map kind_tree (kind_items l)

abbrev pub type_items : TyList → List Ty
type_items l = (out-TyList l).items.items

abbrev pub type_trees : TyList → List TypeTree
type_trees l = map type_tree (type_items l)

abbrev pub items_of : Target → List Item
items_of t = map item_of t.items

abbrev pub item_text : Item → List ℕ
item_text i = (if i.initial then codes "old " else []) ++ i.name
