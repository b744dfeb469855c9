use Rattle.kf_value.specs.Views.{items_of}
use Rattle.kf_text.specs.AttackViews.{own_value_line}
use Rattle.kf_text.proofs.Printing.{one_more}
use Rattle.kf_text.proofs.attack.print_values.Goals as goal

pub loop-weighed-preserved : goal.loop-weighed-preserved
loop-weighed-preserved c =
    one_more (own_value_line (items_of c.args.target.now)) c.args.values.now c.loop-weighed.weighed-index c.weighed-item.result c.loop-weighed.out.items c.print_value.new.out.items _ c.loop-weighed-test.true c.weighed-item.is
    c.loop-weighed.invariant c.in_ok-print_value.ensures
