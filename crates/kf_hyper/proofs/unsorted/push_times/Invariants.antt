use Rattle.std.proofs.Common.{◌≡◌, ◌++◌, map, take}
use Rattle.kf_column.specs.Averages.{scaled}
use Rattle.kf_hyper.proofs.unsorted.push_times.Given as goal

abbrev pub invariant-loop-entry : goal.invariant-loop-entry
invariant-loop-entry l = l.list.items ≡ l.fn.list.items ++ map (scaled l.times) (take l.entry-index l.entries)
