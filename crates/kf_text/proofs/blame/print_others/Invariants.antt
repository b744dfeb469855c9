use Rattle.std.proofs.Common.{◌≡◌, ◌++◌, drop}
use Rattle.std.specs.List.{flat_map, enumerate_from}
use Rattle.kf_text.specs.BlameViews.{own_without_line}
use Rattle.kf_text.proofs.blame.print_others.Given as goal

abbrev pub invariant-loop-i : goal.invariant-loop-i
invariant-loop-i l =
    l.out.items ++ flat_map own_without_line (enumerate_from l.i (drop l.i l.others))
    ≡ l.initial.out.items ++ flat_map own_without_line (enumerate_from 0 l.others)
