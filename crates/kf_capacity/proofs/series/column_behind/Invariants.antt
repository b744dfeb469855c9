use Rattle.std.proofs.Common.{◌≡◌, map}
use Rattle.std.specs.List.{range_with_len}
use Rattle.kf_capacity.specs.Compositions.{through}
use Rattle.kf_capacity.proofs.series.column_behind.Given as goal

abbrev pub invariant-loop-i : goal.invariant-loop-i
invariant-loop-i l = l.items.items ≡ map (through l.columns l.places l.column) (range_with_len 0 l.i)
