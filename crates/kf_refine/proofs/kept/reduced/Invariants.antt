use Rattle.std.proofs.Common.{◌≡◌, map, take}
use Rattle.kf_column.proofs.Factors.{quotient}
use Rattle.kf_refine.proofs.kept.reduced.Given as goal

abbrev pub invariant-loop-entry : goal.invariant-loop-entry
invariant-loop-entry l = l.inner.items ≡ map (quotient l.factor) (take l.entry-index l.entries)
