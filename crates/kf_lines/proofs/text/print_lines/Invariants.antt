use Rattle.std.proofs.Common.{◌≡◌, ◌++◌, drop, flat_map}
use Rattle.kf_lines.specs.Views.{own_text_of}
use Rattle.kf_lines.proofs.text.print_lines.Given as goal

abbrev pub invariant-loop-line : goal.invariant-loop-line
invariant-loop-line l =
    l.out.items ++ flat_map (own_text_of l.bytes) (drop l.line-index l.lines) ≡ l.initial.out.items ++ flat_map (own_text_of l.bytes) l.lines
