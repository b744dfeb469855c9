use Rattle.std.proofs.Common.{◌≡◌, map, take}
use Rattle.kf_ast.specs.Views.{type_form}
use Rattle.kf_ast.proofs.ty_tree.+copy_type.Given as goal

abbrev pub invariant-TyTreeList::copy-loop-ty : goal.invariant-TyTreeList::copy-loop-ty
invariant-TyTreeList::copy-loop-ty l = map type_form l.items.items ≡ map type_form (take l.ty-index l.ty-items)
