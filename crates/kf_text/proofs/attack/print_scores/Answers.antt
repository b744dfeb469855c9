use Rattle.kf_text.specs.AttackViews.{own_score_line}
use Rattle.kf_text.proofs.Printing.{one_more}
use Rattle.kf_text.proofs.attack.print_scores.Goals as goal

pub loop-score-preserved : goal.loop-score-preserved
loop-score-preserved c =
    one_more (own_score_line c.args.actions.now) c.args.scores.now c.loop-score.score-index c.score-item.result c.loop-score.out.items c.print_score.new.out.items _ c.loop-score-test.true c.score-item.is
    c.loop-score.invariant c.in_ok-print_score.ensures
