use Rattle.std.proofs.Common.{◌≡◌, ◌++◌, drop}
use Rattle.std.specs.List.{flat_map}
use Rattle.kf_value.specs.Views.{items_of}
use Rattle.kf_text.specs.Parts.{gain_line}
use Rattle.kf_text.specs.VerdictTexts.{action_lines}
use Rattle.kf_text.proofs.verdict.print_action.Given as goal

abbrev pub invariant-loop-entry : goal.invariant-loop-entry
invariant-loop-entry l =
    l.out.items ++ flat_map (gain_line (items_of l.target)) (drop l.entry-index l.action.gains)
    ≡ l.fn.out.items ++ action_lines (items_of l.target) l.action
