-- The trees of values and types: lists of parts, and what each constructor shows.
use Rattle.std.proofs.Common.{◌≡◌, Bool, ℤ, List, [], ◌∷◌, map, refl, sym, ap, subst, rules, Box, Global}
use Rattle.kf_value.specs.declared.value.Value.{Value, Value-F, out-Value, roll-Value, roll-out-Value, the_lemmas as value_lemmas}
use Rattle.kf_value.specs.declared.value.Value.TheVariants as value
use Rattle.kf_value.specs.declared.value.ValueList.{ValueList}
use Rattle.kf_value.specs.declared.ty.Ty.{Ty, Ty-F, out-Ty, roll-Ty, roll-out-Ty, the_lemmas as type_lemmas}
use Rattle.kf_value.specs.declared.ty.Ty.TheVariants as ty
use Rattle.kf_value.specs.declared.ty.TyList.{TyList}
use Rattle.kf_value.specs.Values.{ValueTree, Truth, Whole, Tuple, Set, parts, parts_list, order, orders}
use Rattle.kf_value.specs.Types.{TypeTree, Boolean, Range, TupleOf, SetOf, type_parts, values, each_values, count, counts}
use Rattle.kf_value.specs.Sizes.{type_list}
use Rattle.kf_value.specs.TypeViews.{type_tree}
use Rattle.kf_value.specs.Texts.{text, texts}
use Rattle.kf_value.specs.Views.{value_tree, value_trees, type_trees}

pub parts_list-parts : (vs : List ValueTree) → parts_list (parts vs) ≡ vs
parts_list-parts [] = refl
parts_list-parts (v ∷ vs) = ap (λ ws. v ∷ ws) (parts_list-parts vs)

pub orders-parts : (vs : List ValueTree) → orders (parts vs) ≡ map order vs
orders-parts [] = refl
orders-parts (v ∷ vs) = ap (λ os. order v ∷ os) (orders-parts vs)

pub texts-parts : (vs : List ValueTree) → texts (parts vs) ≡ map text vs
texts-parts [] = refl
texts-parts (v ∷ vs) = ap (λ ts. text v ∷ ts) (texts-parts vs)

pub type_list-type_parts : (ts : List TypeTree) → type_list (type_parts ts) ≡ ts
type_list-type_parts [] = refl
type_list-type_parts (t ∷ ts) = ap (λ us. t ∷ us) (type_list-type_parts ts)

pub counts-type_parts : (ts : List TypeTree) → counts (type_parts ts) ≡ map count ts
counts-type_parts [] = refl
counts-type_parts (t ∷ ts) = ap (λ ns. count t ∷ ns) (counts-type_parts ts)

pub each_values-type_parts : (ts : List TypeTree) → each_values (type_parts ts) ≡ map values ts
unfolding values each_values
each_values-type_parts [] = refl
each_values-type_parts (t ∷ ts) = ap (λ vss. values t ∷ vss) (each_values-type_parts ts)

pub value_tree-Bool : (b : Bool) → value_tree (value.Bool b) ≡ Truth b
value_tree-Bool b = search (rules, value_lemmas)

pub value_tree-Int : (i : ℤ) → value_tree (value.Int i) ≡ Whole i
value_tree-Int i = search (rules, value_lemmas)

pub value_tree-Tuple : (vs : ValueList) → value_tree (value.Tuple vs) ≡ Tuple (parts (value_trees vs))
value_tree-Tuple vs = search (rules, value_lemmas)

pub value_tree-Set : (vs : ValueList) → value_tree (value.Set vs) ≡ Set (parts (value_trees vs))
value_tree-Set vs = search (rules, value_lemmas)

pub type_tree-Bool : type_tree ty.Bool ≡ Boolean
type_tree-Bool = search (rules, type_lemmas)

pub type_tree-Int : (lo hi : ℤ) → type_tree (ty.Int lo hi) ≡ Range lo hi
type_tree-Int lo hi = search (rules, type_lemmas)

pub type_tree-Tuple : (ts : TyList) → type_tree (ty.Tuple ts) ≡ TupleOf (type_parts (type_trees ts))
type_tree-Tuple ts = search (rules, type_lemmas)

pub type_tree-Set : (base : Box Ty Global) → type_tree (ty.Set base) ≡ SetOf (type_tree base.value)
type_tree-Set base = search (rules, type_lemmas)

-- what holds of each form of value holds of each value
by_shape : (P : Value → Type 0) → ((b : Bool) → P (value.Bool b)) → ((i : ℤ) → P (value.Int i)) → ((vs : ValueList) → P (value.Tuple vs))
    → ((vs : ValueList) → P (value.Set vs)) → (w : Value-F Value ValueList) → P (roll-Value w)
by_shape P truth whole tuple set (Value-F.Bool b) = subst P (sym (value.rolls-Bool b)) (truth b)
by_shape P truth whole tuple set (Value-F.Int i) = subst P (sym (value.rolls-Int i)) (whole i)
by_shape P truth whole tuple set (Value-F.Tuple vs) = subst P (sym (value.rolls-Tuple vs)) (tuple vs)
by_shape P truth whole tuple set (Value-F.Set vs) = subst P (sym (value.rolls-Set vs)) (set vs)

pub by_form : (P : Value → Type 0) → ((b : Bool) → P (value.Bool b)) → ((i : ℤ) → P (value.Int i)) → ((vs : ValueList) → P (value.Tuple vs))
    → ((vs : ValueList) → P (value.Set vs)) → (v : Value) → P v
by_form P truth whole tuple set v = subst P (roll-out-Value v) (by_shape P truth whole tuple set (out-Value v))

-- what holds of each form of type holds of each type
by_type_shape : (P : Ty → Type 0) → P ty.Bool → ((lo hi : ℤ) → P (ty.Int lo hi)) → ((ts : TyList) → P (ty.Tuple ts))
    → ((base : Box Ty Global) → P (ty.Set base)) → (w : Ty-F Ty TyList) → P (roll-Ty w)
by_type_shape P truth range tuple set Ty-F.Bool = subst P (sym ty.rolls-Bool) truth
by_type_shape P truth range tuple set (Ty-F.Int lo hi) = subst P (sym (ty.rolls-Int lo hi)) (range lo hi)
by_type_shape P truth range tuple set (Ty-F.Tuple ts) = subst P (sym (ty.rolls-Tuple ts)) (tuple ts)
by_type_shape P truth range tuple set (Ty-F.Set base) = subst P (sym (ty.rolls-Set base)) (set base)

pub by_type_form : (P : Ty → Type 0) → P ty.Bool → ((lo hi : ℤ) → P (ty.Int lo hi)) → ((ts : TyList) → P (ty.Tuple ts))
    → ((base : Box Ty Global) → P (ty.Set base)) → (t : Ty) → P t
by_type_form P truth range tuple set t = subst P (roll-out-Ty t) (by_type_shape P truth range tuple set (out-Ty t))

-- what each constructor of a value or a type shows
pub ruleset constructors = (value_tree-Bool, value_tree-Int, value_tree-Tuple, value_tree-Set, type_tree-Bool, type_tree-Int, type_tree-Tuple, type_tree-Set)

-- what a value shows, and the texts of its parts
pub ruleset shown_values = (constructors, texts-parts)
