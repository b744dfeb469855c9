use Rattle.std.proofs.Common.{ap, ◌∙◌, map, take_all}
use Rattle.kf_ast.specs.declared.ty_tree.TyTreeList.{out-roll-TyTreeList}
use Rattle.kf_ast.specs.Views.{type_form}
use Rattle.kf_ast.proofs.Copies.{copied_more}
use Rattle.kf_ast.proofs.ty_tree.+copy_type.Goals as goal

pub TyTreeList::copy-loop-ty-preserved : goal.TyTreeList::copy-loop-ty-preserved
TyTreeList::copy-loop-ty-preserved t c =
    copied_more type_form c.deref-ty-items.result.now c.loop-ty.items.items c.push.new.self.items c.loop-ty.ty-index c.ty-item.result
    c.in_ok-copy.field-0
    c.loop-ty-test.true c.ty-item.is c.in_ok-copy.ensures c.in_ok-push.ensures.items c.loop-ty.invariant

pub TyTreeList::copy-returns : goal.TyTreeList::copy-returns
TyTreeList::copy-returns t c =
    ap (λ l. map type_form l.items.items) (out-roll-TyTreeList (record { items = c.loop-ty.items })) ∙ c.loop-ty.invariant
    ∙ ap (map type_form) (take_all c.loop-ty.ty-index c.deref-ty-items.result.now c.loop-ty-test.false ∙ c.deref-ty-items.ensures.value)
