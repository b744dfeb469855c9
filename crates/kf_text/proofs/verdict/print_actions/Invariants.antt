use Rattle.std.proofs.Common.{◌≡◌, ◌++◌, drop}
use Rattle.std.specs.List.{flat_map}
use Rattle.kf_value.specs.Views.{items_of}
use Rattle.kf_text.specs.Parts.{actions_lines}
use Rattle.kf_text.specs.VerdictTexts.{action_lines}
use Rattle.kf_text.proofs.verdict.print_actions.Given as goal

abbrev pub invariant-loop-action : goal.invariant-loop-action
invariant-loop-action l =
    l.out.items ++ flat_map (action_lines (items_of l.target)) (drop l.action-index l.actions)
    ≡ l.fn.out.items ++ actions_lines (items_of l.target) l.actions
