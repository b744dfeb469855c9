use Rattle.kf_ops.proofs.Readings.{elements_sorted}
use Rattle.kf_ops.proofs.sets.combined.Goals as goal

pub merge-requires-clause-first : goal.merge-requires-clause-first
merge-requires-clause-first c = elements_sorted c.args.a.now _ c.elements.ensures c.requires.first

pub merge-requires-clause-second : goal.merge-requires-clause-second
merge-requires-clause-second c = elements_sorted c.args.b.now _ c.elements-2.ensures c.requires.second
