use Rattle.std.proofs.Common.{refl, []}
use Rattle.kf_top.proofs.Commands.{made_answer}
use Rattle.kf_top.proofs.Readings.{counts_next}
use Rattle.kf_top.proofs.work.work.Goals as goal

pub returns-in-Hyper-clause-answer : goal.returns-in-Hyper-clause-answer
returns-in-Hyper-clause-answer g c = rw c.in-Hyper.is c.about_one.ensures.answer

pub returns-in-Hyper-clause-counts : goal.returns-in-Hyper-clause-counts
returns-in-Hyper-clause-counts g c = rw c.in-Hyper.is c.about_one.ensures.counts

pub returns-in-Traces-clause-answer : goal.returns-in-Traces-clause-answer
returns-in-Traces-clause-answer g c = rw c.in-Traces.is c.about_one-in-Traces.ensures.answer

pub returns-in-Traces-clause-counts : goal.returns-in-Traces-clause-counts
returns-in-Traces-clause-counts g c = rw c.in-Traces.is c.about_one-in-Traces.ensures.counts

pub returns-in-Channel-clause-answer : goal.returns-in-Channel-clause-answer
returns-in-Channel-clause-answer g c = rw c.in-Channel.is c.about_one-in-Channel.ensures.answer

pub returns-in-Channel-clause-counts : goal.returns-in-Channel-clause-counts
returns-in-Channel-clause-counts g c = rw c.in-Channel.is c.about_one-in-Channel.ensures.counts

pub returns-in-Trail-clause-answer : goal.returns-in-Trail-clause-answer
returns-in-Trail-clause-answer g c = rw c.in-Trail.is c.about_one-in-Trail.ensures.answer

pub returns-in-Trail-clause-counts : goal.returns-in-Trail-clause-counts
returns-in-Trail-clause-counts g c = rw c.in-Trail.is c.about_one-in-Trail.ensures.counts

pub returns-in-Leak-clause-answer : goal.returns-in-Leak-clause-answer
returns-in-Leak-clause-answer g c = rw c.in-Leak.is c.about_one-in-Leak.ensures.answer

pub returns-in-Leak-clause-counts : goal.returns-in-Leak-clause-counts
returns-in-Leak-clause-counts g c = rw c.in-Leak.is c.about_one-in-Leak.ensures.counts

pub returns-in-Attack-clause-answer : goal.returns-in-Attack-clause-answer
returns-in-Attack-clause-answer g c = rw c.in-Attack.is c.about_one-in-Attack.ensures.answer

pub returns-in-Attack-clause-counts : goal.returns-in-Attack-clause-counts
returns-in-Attack-clause-counts g c = rw c.in-Attack.is c.about_one-in-Attack.ensures.counts

pub returns-in-Reach-clause-answer : goal.returns-in-Reach-clause-answer
returns-in-Reach-clause-answer g c = rw c.in-Reach.is c.about_one-in-Reach.ensures.answer

pub returns-in-Reach-clause-counts : goal.returns-in-Reach-clause-counts
returns-in-Reach-clause-counts g c = rw c.in-Reach.is c.about_one-in-Reach.ensures.counts

pub returns-in-Capacity-clause-answer : goal.returns-in-Capacity-clause-answer
returns-in-Capacity-clause-answer g c = rw c.in-Capacity.is c.about_one-in-Capacity.ensures.answer

pub returns-in-Capacity-clause-counts : goal.returns-in-Capacity-clause-counts
returns-in-Capacity-clause-counts g c = rw c.in-Capacity.is c.about_one-in-Capacity.ensures.counts

pub returns-in-Quiet-clause-answer : goal.returns-in-Quiet-clause-answer
returns-in-Quiet-clause-answer g c = rw c.in-Quiet.is c.about_one-in-Quiet.ensures.answer

pub returns-in-Quiet-clause-counts : goal.returns-in-Quiet-clause-counts
returns-in-Quiet-clause-counts g c = rw c.in-Quiet.is c.about_one-in-Quiet.ensures.counts

pub returns-in-Blame-clause-answer : goal.returns-in-Blame-clause-answer
returns-in-Blame-clause-answer g c = rw c.in-Blame.is c.about_one-in-Blame.ensures.answer

pub returns-in-Blame-clause-counts : goal.returns-in-Blame-clause-counts
returns-in-Blame-clause-counts g c = rw c.in-Blame.is c.about_one-in-Blame.ensures.counts

pub returns-in-Refine-clause-answer : goal.returns-in-Refine-clause-answer
returns-in-Refine-clause-answer g c = rw c.in-Refine.is c.about_two.ensures.answer

pub returns-in-Refine-clause-counts : goal.returns-in-Refine-clause-counts
returns-in-Refine-clause-counts g c = rw c.in-Refine.is c.about_two.ensures.counts

pub returns-in-Check-clause-answer : goal.returns-in-Check-clause-answer
returns-in-Check-clause-answer g c = rw c.in-Check.is c.about_two-in-Check.ensures.answer

pub returns-in-Check-clause-counts : goal.returns-in-Check-clause-counts
returns-in-Check-clause-counts g c = rw c.in-Check.is c.about_two-in-Check.ensures.counts

pub returns-in-Cascade-clause-answer : goal.returns-in-Cascade-clause-answer
returns-in-Cascade-clause-answer g c = rw c.in-Cascade.is c.about_two-in-Cascade.ensures.answer

pub returns-in-Cascade-clause-counts : goal.returns-in-Cascade-clause-counts
returns-in-Cascade-clause-counts g c = rw c.in-Cascade.is c.about_two-in-Cascade.ensures.counts

pub returns-in-Parallel-clause-answer : goal.returns-in-Parallel-clause-answer
returns-in-Parallel-clause-answer g c = rw c.in-Parallel.is c.about_two-in-Parallel.ensures.answer

pub returns-in-Parallel-clause-counts : goal.returns-in-Parallel-clause-counts
returns-in-Parallel-clause-counts g c = rw c.in-Parallel.is c.about_two-in-Parallel.ensures.counts

pub returns-in-Choice-clause-answer : goal.returns-in-Choice-clause-answer
returns-in-Choice-clause-answer g c = rw c.in-Choice.is c.about_two-in-Choice.ensures.answer

pub returns-in-Choice-clause-counts : goal.returns-in-Choice-clause-counts
returns-in-Choice-clause-counts g c = rw c.in-Choice.is c.about_two-in-Choice.ensures.counts

pub returns-in-Covers-clause-answer : goal.returns-in-Covers-clause-answer
returns-in-Covers-clause-answer g c = rw c.in-Covers.is c.covers.ensures.answer

pub returns-in-Covers-clause-counts : goal.returns-in-Covers-clause-counts
returns-in-Covers-clause-counts g c = rw c.in-Covers.is c.covers.ensures.counts

pub returns-in-Make-clause-answer : goal.returns-in-Make-clause-answer
returns-in-Make-clause-answer g c = rw c.in-Make.is (made_answer _ _ _ c.in-Make.n c.in-Make.turns c.made_hyper.result c.made_hyper.ensures.answer)

pub returns-in-Make-clause-counts : goal.returns-in-Make-clause-counts
returns-in-Make-clause-counts g c = rw c.in-Make.is (counts_next [] _ _ c.made_hyper.result refl c.made_hyper.ensures.read)

pub returns-in-Lines-clause-answer : goal.returns-in-Lines-clause-answer
returns-in-Lines-clause-answer g c = rw c.in-Lines.is c.lines.ensures.answer

pub returns-in-Lines-clause-counts : goal.returns-in-Lines-clause-counts
returns-in-Lines-clause-counts g c = rw c.in-Lines.is c.lines.ensures.counts
