use Rattle.std.proofs.Common.{[], drop}
use Rattle.kf_support.specs.Carried.{with_all}
use Rattle.kf_support.proofs.Settling.{Joins}
use Rattle.kf_support.proofs.ways.joined.Given as goal

abbrev pub invariant-loop-way : goal.invariant-loop-way
invariant-loop-way l = Joins (drop l.way-index l.ways) (with_all [] l.ways) l.reached.items
