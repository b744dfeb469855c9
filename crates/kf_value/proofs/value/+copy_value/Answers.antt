use Rattle.kf_value.specs.Views.{value_tree}
use Rattle.kf_value.proofs.ListLemmas.{copied_more}
use Rattle.kf_value.proofs.value.+copy_value.Goals as goal

pub ValueList::copy-loop-value-preserved : goal.ValueList::copy-loop-value-preserved
ValueList::copy-loop-value-preserved t c =
    copied_more value_tree c.deref-value-items.result.now c.loop-value.items.items c.push.new.self.items c.loop-value.value-index c.value-item.result
    c.in_ok-copy.field-0 c.loop-value-test.true c.value-item.is c.in_ok-copy.ensures c.in_ok-push.ensures.items c.loop-value.invariant
