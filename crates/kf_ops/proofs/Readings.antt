-- What values of each form hold.
use Rattle.std.proofs.Common.{◌≡◌, List, map, sym, ap, ◌∙◌, subst, Result, Ok, Err}
use Rattle.std.specs.List.Sorted.{IsStrictlySortedBy}
use Rattle.kf_value.specs.Values.{ValueTree, Truth, Whole, Tuple, Set, order, elements}
use Rattle.kf_value.specs.Forms.{IsWellFormed}
use Rattle.kf_value.proofs.Sorting.{sorted-nil}
use Rattle.kf_value.specs.Views.{value_tree, value_trees}
use Rattle.kf_value.specs.declared.value.Value.{Value}
use Rattle.kf_value.specs.declared.value.Value.TheVariants as value
use Rattle.kf_value.specs.declared.value.ValueList.{ValueList}
use Rattle.kf_value.proofs.Trees.{constructors, parts_list-parts, value_tree-Set}
use Rattle.kf_ops.specs.declared.fault.OpFault.{OpFault}
use Rattle.kf_ops.specs.declared.fault.OpFault.TheVariants as fault

pub elements-Set : (vs : ValueList) → elements (value_tree (value.Set vs)) ≡ value_trees vs
elements-Set vs = ap elements (value_tree-Set vs) ∙ parts_list-parts (value_trees vs)

pub elements_ascend : (v : ValueTree) → IsWellFormed v → IsStrictlySortedBy order (elements v)
elements_ascend (Truth b) h = sorted-nil order
elements_ascend (Whole i) h = sorted-nil order
elements_ascend (Tuple vs) h = sorted-nil order
elements_ascend (Set vs) h = h.0

-- a slice of the elements of a well-formed value
pub elements_sorted : (v : Value) (xs : List Value) → map value_tree xs ≡ elements (value_tree v) → IsWellFormed (value_tree v)
    → IsStrictlySortedBy order (map value_tree xs)
elements_sorted v xs is h = subst (IsStrictlySortedBy order) (sym is) (elements_ascend (value_tree v) h)

-- a value is no want of memory
pub value_stays : {X : Type 0} (v : Value) → ◌≡◌ {A = Result Value OpFault} (Ok v) (Err fault.Mem) → X
value_stays v h = absurd (cc)

pub ruleset readings = (constructors, elements-Set)
