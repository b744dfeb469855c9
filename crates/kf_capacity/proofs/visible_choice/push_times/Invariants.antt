use Rattle.std.proofs.Common.{◌≡◌, ◌++◌, map, drop}
use Rattle.kf_capacity.specs.Compositions.{times}
use Rattle.kf_capacity.proofs.visible_choice.push_times.Given as goal

abbrev pub invariant-loop-column : goal.invariant-loop-column
invariant-loop-column l = l.made.items ++ map (times l.factor) (drop l.column-index l.columns) ≡ l.initial.made.items ++ map (times l.factor) l.columns
