use Rattle.std.proofs.Common.{◌-◌, drop, length, map}
use Rattle.kf_run.specs.Ways.{leaked}
use Rattle.kf_run.proofs.Rows.{GoesOn}
use Rattle.kf_run.proofs.column_spread.add_sorted.Given as goal

abbrev pub invariant-loop-at : goal.invariant-loop-at
invariant-loop-at l = GoesOn (map leaked l.sorted) (map leaked (drop l.at l.sorted)) l.initial.list.items l.list.items

abbrev pub decreases-loop-at : goal.decreases-loop-at
decreases-loop-at l = length l.sorted - l.at
