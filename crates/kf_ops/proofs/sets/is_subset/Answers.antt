use Rattle.kf_ops.proofs.Readings.{elements_sorted}
use Rattle.kf_ops.proofs.sets.is_subset.Goals as goal

pub has_all-requires-clause-first : goal.has_all-requires-clause-first
has_all-requires-clause-first c = elements_sorted c.args.a.now _ c.elements.ensures c.requires.first

pub has_all-requires-clause-second : goal.has_all-requires-clause-second
has_all-requires-clause-second c = elements_sorted c.args.b.now _ c.elements-2.ensures c.requires.second
