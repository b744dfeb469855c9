use Rattle.std.proofs.Common.{◌≡◌, ◌-◌, ◌++◌}
use Rattle.std.specs.List.{range_with_len}
use Rattle.kf_check.proofs.targets.first_slots.Given as goal

abbrev pub invariant-loop-i : goal.invariant-loop-i
invariant-loop-i l = l.slots.items ++ range_with_len l.i (l.count - l.i) ≡ range_with_len 0 l.count
