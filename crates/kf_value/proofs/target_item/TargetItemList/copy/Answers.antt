use Rattle.kf_value.specs.TypeViews.{item_of}
use Rattle.kf_value.proofs.ListLemmas.{copied_more}
use Rattle.kf_value.proofs.target_item.TargetItemList.copy.Goals as goal

pub loop-item-preserved : goal.loop-item-preserved
loop-item-preserved c =
    copied_more item_of c.deref-item-items.result.now c.loop-item.items.items c.push.new.self.items c.loop-item.item-index c.item-item.result
    c.in_ok-copy.field-0 c.loop-item-test.true c.item-item.is c.in_ok-copy.ensures c.in_ok-push.ensures.items c.loop-item.invariant
