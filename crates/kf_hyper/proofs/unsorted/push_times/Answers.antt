use Rattle.kf_hyper.proofs.Moving.{times_gains, times_positive, times_below}
use Rattle.kf_hyper.proofs.unsorted.push_times.Goals as goal

pub returns-clause-gains : goal.returns-clause-gains
returns-clause-gains c = times_gains c.args.list.now.items c.loop-entry.list.items c.args.entries.now c.args.times c.loop-entry.entry-index c.loop-entry-test.false c.loop-entry.invariant

pub returns-clause-positive : goal.returns-clause-positive
returns-clause-positive c =
    times_positive c.args.list.now.items c.loop-entry.list.items c.args.entries.now c.args.times c.loop-entry.entry-index c.loop-entry-test.false c.loop-entry.invariant c.requires.some c.requires.positive

pub returns-clause-below : goal.returns-clause-below
returns-clause-below c = times_below c.args.list.now.items c.loop-entry.list.items c.args.entries.now c.args.times c.loop-entry.entry-index c.loop-entry-test.false c.loop-entry.invariant
