use Rattle.kf_traces.proofs.walks.assigned_all.Goals as goal

pub leak_each-requires-clause-kinded : goal.leak_each-requires-clause-kinded
leak_each-requires-clause-kinded c = c.requires.kinded

pub assigned_each-requires-clause-kinded : goal.assigned_each-requires-clause-kinded
assigned_each-requires-clause-kinded c = c.requires.kinded
