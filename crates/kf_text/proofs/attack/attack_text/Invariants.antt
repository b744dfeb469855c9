use Rattle.std.proofs.Common.{◌≡◌, ◌++◌, codes, drop}
use Rattle.std.specs.List.{flat_map, enumerate_from}
use Rattle.kf_gain.specs.Views.{gain_tree}
use Rattle.kf_hyper.specs.Views.{inner_at, scale_of, target_of}
use Rattle.kf_attack.specs.Views.{actions_of}
use Rattle.kf_text.specs.AttackViews.{own_attack_lines}
use Rattle.kf_text.specs.ReportTexts.{gain_text}
use Rattle.kf_text.specs.Texts.{line}
use Rattle.kf_text.proofs.attack.attack_text.Given as goal

abbrev pub invariant-loop-i : goal.invariant-loop-i
invariant-loop-i l =
    l.out.items
    ++ flat_map (own_attack_lines (target_of l.h) (scale_of l.h) (actions_of (gain_tree l.g)) (inner_at l.h)) (enumerate_from l.i (drop l.i l.a))
    ≡ line (codes "gain " ++ gain_text (gain_tree l.g))
    ++ flat_map (own_attack_lines (target_of l.h) (scale_of l.h) (actions_of (gain_tree l.g)) (inner_at l.h)) (enumerate_from 0 l.a)
