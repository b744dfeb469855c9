use Rattle.std.proofs.Common.{Ok, Err, subst, sym}
use Rattle.std.proofs.lemmas.Result.{err_from_is_err_and}
use Rattle.kf_capacity.specs.Views.{channel_tree}
use Rattle.kf_channel.specs.declared.channel.Channel.{Channel}
use Rattle.kf_load.specs.Views.{program_in}
use Rattle.kf_support.specs.Cleared.{turns_of}
use Rattle.kf_top.specs.CapacityViews.{way_of, ChannelIn}
use Rattle.kf_top.proofs.Capacities.{no_first, no_second, of_both, second_channel, second_stops}
use Rattle.kf_top.proofs.Steps.{found_as}
use Rattle.kf_top.proofs.capacity.composed_capacities.Goals as goal

pub returns-in_err-first-clause-answer : goal.returns-in_err-first-clause-answer
returns-in_err-first-clause-answer c =
    let pair = c.args.pair.now in
    let e = err_from_is_err_and c.from_residual.result c.from_residual.ensures.1 in
    rw (e.1, e.2) (no_first (way_of c.args.way) (turns_of pair.first) (program_in pair.first) (program_in pair.second) c.in_err-first.field-0.0 c.in_err-first.ensures.answer)

pub returns-in_err-second-clause-answer : goal.returns-in_err-second-clause-answer
returns-in_err-second-clause-answer c =
    let pair = c.args.pair.now in
    let e = err_from_is_err_and c.from_residual-in_err-second.result c.from_residual-in_err-second.ensures.1 in
    let is = found_as channel_tree (ChannelIn (turns_of pair.second) (program_in pair.second)) c.channel_in-2.result (Err c.in_err-second.field-0.0)
    c.in_err-second.ensures.err c.channel_in-2.ensures.answer in
    rw (e.1, e.2) (no_second (way_of c.args.way) (turns_of pair.first) (program_in pair.first) (program_in pair.second) (channel_tree c.in_ok-first.first) c.in_ok-first.ensures.answer
    c.in_err-second.field-0.0 (second_stops (turns_of pair.first) (turns_of pair.second) c.requires.turns (program_in pair.second) c.in_err-second.field-0.0 is))

pub returns-clause-answer : goal.returns-clause-answer
returns-clause-answer c =
    let pair = c.args.pair.now in
    let p = program_in pair.first in
    let q = program_in pair.second in
    let found = c.in_ok-second.ensures.ok in
    let one = subst (λ (d : Channel). ChannelIn (turns_of pair.first) p (Ok (channel_tree d))) (sym found.1) c.in_ok-first.ensures.answer in
    let two = found_as channel_tree (ChannelIn (turns_of pair.second) q) c.channel_in-2.result (Ok c.in_ok-second.second) found.0 c.channel_in-2.ensures.answer in
    of_both (way_of c.args.way) (turns_of pair.first) p q (channel_tree c.in_ok-second.first) one (channel_tree c.in_ok-second.second)
    (second_channel (turns_of pair.first) (turns_of pair.second) c.requires.turns q (Ok (channel_tree c.in_ok-second.second)) two)
    c.put_together-done.result c.put_together-done.ensures.answer
