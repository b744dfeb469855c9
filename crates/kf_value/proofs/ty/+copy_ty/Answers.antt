use Rattle.kf_value.specs.TypeViews.{type_tree}
use Rattle.kf_value.proofs.ListLemmas.{copied_more}
use Rattle.kf_value.proofs.ty.+copy_ty.Goals as goal

pub TyList::copy-loop-ty-preserved : goal.TyList::copy-loop-ty-preserved
TyList::copy-loop-ty-preserved t c =
    copied_more type_tree c.deref-ty-items.result.now c.loop-ty.items.items c.push.new.self.items c.loop-ty.ty-index c.ty-item.result
    c.in_ok-copy.field-0 c.loop-ty-test.true c.ty-item.is c.in_ok-copy.ensures c.in_ok-push.ensures.items c.loop-ty.invariant
