use Rattle.kf_value.specs.Views.{items_of}
use Rattle.kf_text.specs.VerdictTexts.{action_lines}
use Rattle.kf_text.proofs.Printing.{one_more}
use Rattle.kf_text.proofs.verdict.print_actions.Goals as goal

pub loop-action-preserved : goal.loop-action-preserved
loop-action-preserved c =
    one_more (action_lines (items_of c.args.target.now)) c.args.actions.now c.loop-action.action-index c.action-item.result c.loop-action.out.items c.print_action.new.out.items _ c.loop-action-test.true c.action-item.is
    c.loop-action.invariant c.in_ok-print_action.ensures
