-- What each constructor of the program's trees shows.
use Rattle.std.proofs.Common.{◌≡◌, ℤ, Box, Global, List, map, rules, ap, sym, ◌∙◌}
use Rattle.kf_value.specs.declared.kind.Kind.{Kind, the_lemmas as kind_lemmas}
use Rattle.kf_value.specs.declared.kind.Kind.TheVariants as kind
use Rattle.kf_value.specs.declared.kind.KindList.{KindList}
use Rattle.kf_value.specs.Kinds.{TruthKind, WholeKind, TupleKind, SetKind, kind_parts}
use Rattle.kf_value.specs.Views.{kind_tree, kind_trees, kind_items}
use Rattle.kf_ast.specs.declared.ty_tree.TyTree.{TyTree, the_lemmas as type_lemmas}
use Rattle.kf_ast.specs.declared.ty_tree.TyNode.TheVariants as ty
use Rattle.kf_ast.specs.declared.ty_tree.TyTreeList.{TyTreeList}
use Rattle.kf_ast.specs.TypeForms.{type_at, Boolean, Range, TupleOf, SetOf, types}
use Rattle.kf_ast.specs.Views.{type_form, ty_items}

pub kind_tree-Bool : kind_tree kind.Bool ≡ TruthKind
kind_tree-Bool = search (rules, kind_lemmas)

pub kind_tree-Int : kind_tree kind.Int ≡ WholeKind
kind_tree-Int = search (rules, kind_lemmas)

pub kind_tree-Tuple : (ks : KindList) → kind_tree (kind.Tuple ks) ≡ TupleKind (kind_parts (kind_trees ks))
kind_tree-Tuple ks = search (rules, kind_lemmas)

-- the same of a kind that is known to be a tuple's, with its parts
pub kind_tree-is_tuple : (k : Kind) (ks : KindList) (items : List Kind) → k ≡ kind.Tuple ks → items ≡ kind_items ks → kind_tree k ≡ TupleKind (kind_parts (map kind_tree items))
kind_tree-is_tuple k ks items is same = ap kind_tree is ∙ (kind_tree-Tuple ks ∙ ap (λ js. TupleKind (kind_parts (map kind_tree js))) (sym same))

pub kind_tree-Set : (of : Box Kind Global) → kind_tree (kind.Set of) ≡ SetKind (kind_tree of.value)
kind_tree-Set of = search (rules, kind_lemmas)

pub type_form-Bool : (x : TyTree) → x.node ≡ ty.Bool → type_form x ≡ type_at x.at Boolean
type_form-Bool x is = search (rules, type_lemmas)

pub type_form-Int : (x : TyTree) (lo hi : ℤ) → x.node ≡ ty.Int lo hi → type_form x ≡ type_at x.at (Range lo hi)
type_form-Int x lo hi is = search (rules, type_lemmas)

pub type_form-Tuple : (x : TyTree) (ps : TyTreeList) → x.node ≡ ty.Tuple ps → type_form x ≡ type_at x.at (TupleOf (types (map type_form (ty_items ps))))
type_form-Tuple x ps is = search (rules, type_lemmas)

pub type_form-Set : (x : TyTree) (base : Box TyTree Global) → x.node ≡ ty.Set base → type_form x ≡ type_at x.at (SetOf (type_form base.value))
type_form-Set x base is = search (rules, type_lemmas)
