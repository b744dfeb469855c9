use Rattle.kf_refine.proofs.Walking.{Walks}
use Rattle.kf_refine.proofs.kept.smallest.Given as goal

abbrev pub invariant-loop-value : goal.invariant-loop-value
invariant-loop-value l = Walks l.rows.entries l.seen.keys l.value-iterator l.values.items
