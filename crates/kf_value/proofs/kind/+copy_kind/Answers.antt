use Rattle.kf_value.specs.Views.{kind_tree}
use Rattle.kf_value.proofs.ListLemmas.{copied_more}
use Rattle.kf_value.proofs.kind.+copy_kind.Goals as goal

pub KindList::copy-loop-kind-preserved : goal.KindList::copy-loop-kind-preserved
KindList::copy-loop-kind-preserved t c =
    copied_more kind_tree c.deref-kind-items.result.now c.loop-kind.items.items c.push.new.self.items c.loop-kind.kind-index c.kind-item.result
    c.in_ok-copy.field-0 c.loop-kind-test.true c.kind-item.is c.in_ok-copy.ensures c.in_ok-push.ensures.items c.loop-kind.invariant
