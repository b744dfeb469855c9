use Rattle.std.proofs.Common.{◌≡◌, ◌++◌, drop}
use Rattle.std.specs.Prelude.{IfSome}
use Rattle.std.specs.List.{flat_map}
use Rattle.kf_value.specs.Views.{items_of}
use Rattle.kf_text.specs.Endings.{line_end}
use Rattle.kf_text.specs.Texts.{entry_line}
use Rattle.kf_text.proofs.entries.print_entries.Given as goal

-- what is left brings the text to its end, and the end of a line is that of the weight before
abbrev pub invariant-loop-entry : goal.invariant-loop-entry
invariant-loop-entry l =
    (l.out.items ++ flat_map (entry_line (items_of l.target) l.whole) (drop l.entry-index l.entries)
    ≡ l.initial.out.items ++ flat_map (entry_line (items_of l.target) l.whole) l.entries)
    × IfSome l.weight (λ w. l.end.items ≡ line_end l.whole w)
