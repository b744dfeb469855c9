use Rattle.std.proofs.Common.{◌≡◌, map, take}
use Rattle.kf_value.specs.TypeViews.{type_tree}
use Rattle.kf_value.proofs.ty.+copy_ty.Given as goal

abbrev pub invariant-TyList::copy-loop-ty : goal.invariant-TyList::copy-loop-ty
invariant-TyList::copy-loop-ty l = map type_tree l.items.items ≡ map type_tree (take l.ty-index l.ty-items)
