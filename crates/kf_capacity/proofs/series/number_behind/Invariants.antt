use Rattle.std.proofs.Common.{◌≡◌, ◌+◌, length, drop}
use Rattle.kf_capacity.specs.Compositions.{through}
use Rattle.kf_capacity.proofs.series.number_behind.Given as goal

abbrev pub invariant-loop-first : goal.invariant-loop-first
invariant-loop-first l =
    l.sum + through (drop (length l.yielded) l.columns) (drop (length l.yielded) l.places) l.column l.fn.i ≡ through l.columns l.places l.column l.fn.i
