use Rattle.std.proofs.Common.{◌≡◌, ◌++◌, drop}
use Rattle.std.specs.List.{flat_map}
use Rattle.kf_text.specs.AttackViews.{own_score_line}
use Rattle.kf_text.proofs.attack.print_scores.Given as goal

abbrev pub invariant-loop-score : goal.invariant-loop-score
invariant-loop-score l =
    l.out.items ++ flat_map (own_score_line l.actions) (drop l.score-index l.scores)
    ≡ l.initial.out.items ++ flat_map (own_score_line l.actions) l.scores
