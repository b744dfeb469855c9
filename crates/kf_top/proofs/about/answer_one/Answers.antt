use Rattle.std.proofs.Common.{refl}
use Rattle.kf_top.specs.TaskAnswers.{names_in}
use Rattle.kf_top.specs.Views.{command_of, shown}
use Rattle.kf_words.specs.Jobs.{gain_of}
use Rattle.kf_words.specs.Task.{Attack, Leak, tables_of}
use Rattle.kf_top.proofs.Readings.{attack_tables, counts_as, counts_next, files_as, leak_tables, none_read}
use Rattle.kf_top.proofs.about.answer_one.Goals as goal

pub returns-in-Hyper-clause-answer : goal.returns-in-Hyper-clause-answer
returns-in-Hyper-clause-answer g c = rw c.in-Hyper.is (none_read _ _ _ shown c.hyper.result _ c.hyper.ensures.answer)

pub returns-in-Hyper-clause-counts : goal.returns-in-Hyper-clause-counts
returns-in-Hyper-clause-counts g c = counts_next (tables_of (command_of c.args.question)) _ _ c.hyper.result refl c.hyper.ensures.read

pub returns-in-Traces-clause-answer : goal.returns-in-Traces-clause-answer
returns-in-Traces-clause-answer g c = rw c.in-Traces.is (none_read _ _ _ shown c.traces.result _ c.traces.ensures.answer)

pub returns-in-Traces-clause-counts : goal.returns-in-Traces-clause-counts
returns-in-Traces-clause-counts g c = counts_next (tables_of (command_of c.args.question)) _ _ c.traces.result refl c.traces.ensures.read

pub returns-in-Channel-clause-answer : goal.returns-in-Channel-clause-answer
returns-in-Channel-clause-answer g c = rw c.in-Channel.is (none_read _ _ _ shown c.channel.result _ c.channel.ensures.answer)

pub returns-in-Channel-clause-counts : goal.returns-in-Channel-clause-counts
returns-in-Channel-clause-counts g c = counts_next (tables_of (command_of c.args.question)) _ _ c.channel.result refl c.channel.ensures.read

pub returns-in-Trail-clause-answer : goal.returns-in-Trail-clause-answer
returns-in-Trail-clause-answer g c = rw c.in-Trail.is (none_read _ _ _ shown c.trail.result _ c.trail.ensures.answer)

pub returns-in-Trail-clause-counts : goal.returns-in-Trail-clause-counts
returns-in-Trail-clause-counts g c = counts_next (tables_of (command_of c.args.question)) _ _ c.trail.result refl c.trail.ensures.read

pub returns-in-Reach-clause-answer : goal.returns-in-Reach-clause-answer
returns-in-Reach-clause-answer g c = rw c.in-Reach.is (none_read _ _ _ shown c.reach.result _ c.reach.ensures.answer)

pub returns-in-Reach-clause-counts : goal.returns-in-Reach-clause-counts
returns-in-Reach-clause-counts g c = counts_next (tables_of (command_of c.args.question)) _ _ c.reach.result refl c.reach.ensures.read

pub returns-in-Capacity-clause-answer : goal.returns-in-Capacity-clause-answer
returns-in-Capacity-clause-answer g c = rw c.in-Capacity.is (none_read _ _ _ shown c.capacity.result _ c.capacity.ensures.answer)

pub returns-in-Capacity-clause-counts : goal.returns-in-Capacity-clause-counts
returns-in-Capacity-clause-counts g c = counts_next (tables_of (command_of c.args.question)) _ _ c.capacity.result refl c.capacity.ensures.read

pub returns-in-Quiet-clause-answer : goal.returns-in-Quiet-clause-answer
returns-in-Quiet-clause-answer g c = rw c.in-Quiet.is (none_read _ _ _ shown c.quiet.result _ c.quiet.ensures.answer)

pub returns-in-Quiet-clause-counts : goal.returns-in-Quiet-clause-counts
returns-in-Quiet-clause-counts g c = counts_next (tables_of (command_of c.args.question)) _ _ c.quiet.result refl c.quiet.ensures.read

pub returns-in-Blame-clause-answer : goal.returns-in-Blame-clause-answer
returns-in-Blame-clause-answer g c = rw c.in-Blame.is (none_read _ _ _ shown c.blame.result _ c.blame.ensures.answer)

pub returns-in-Blame-clause-counts : goal.returns-in-Blame-clause-counts
returns-in-Blame-clause-counts g c = counts_next (tables_of (command_of c.args.question)) _ _ c.blame.result refl c.blame.ensures.read

pub returns-in-Leak-clause-answer : goal.returns-in-Leak-clause-answer
returns-in-Leak-clause-answer g c =
    let word = gain_of c.in-Leak.word.now in
    rw c.in-Leak.is (files_as _ _ _ (tables_of (Leak word)) (names_in word) (leak_tables word) shown c.leak.result _ c.leak.ensures.answer)

pub returns-in-Leak-clause-counts : goal.returns-in-Leak-clause-counts
returns-in-Leak-clause-counts g c =
    let word = gain_of c.in-Leak.word.now in
    rw c.in-Leak.is (counts_as _ _ (tables_of (Leak word)) (names_in word) (leak_tables word) c.leak.result c.leak.ensures.counts)

pub returns-in-Attack-clause-answer : goal.returns-in-Attack-clause-answer
returns-in-Attack-clause-answer g c =
    let word = gain_of c.in-Attack.word.now in
    rw c.in-Attack.is (files_as _ _ _ (tables_of (Attack word)) (names_in word) (attack_tables word) shown c.attack.result _ c.attack.ensures.answer)

pub returns-in-Attack-clause-counts : goal.returns-in-Attack-clause-counts
returns-in-Attack-clause-counts g c =
    let word = gain_of c.in-Attack.word.now in
    rw c.in-Attack.is (counts_as _ _ (tables_of (Attack word)) (names_in word) (attack_tables word) c.attack.result c.attack.ensures.counts)
