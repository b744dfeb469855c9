use Rattle.std.proofs.Common.{◌≡◌, ◌++◌, drop}
use Rattle.std.specs.List.{flat_map, enumerate_from}
use Rattle.kf_text.specs.Parts.{count_line}
use Rattle.kf_text.specs.Texts.{trail_text}
use Rattle.kf_text.proofs.trail.trail_text.Given as goal

abbrev pub invariant-loop-i : goal.invariant-loop-i
invariant-loop-i l = l.out.items ++ flat_map count_line (enumerate_from l.i (drop l.i l.fn.t)) ≡ trail_text l.fn.t
