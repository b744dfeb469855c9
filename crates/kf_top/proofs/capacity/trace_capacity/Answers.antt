use Rattle.std.proofs.lemmas.Result.{err_from_is_err_and}
use Rattle.kf_capacity.specs.Grids.{channel_grid}
use Rattle.kf_capacity.specs.Views.{channel_tree}
use Rattle.kf_load.specs.Views.{program_in}
use Rattle.kf_support.specs.Cleared.{turns_of}
use Rattle.kf_top.specs.Steps.{CapacityIn}
use Rattle.kf_top.proofs.Capacities.{capacity_prints, capacity_stops, unread}
use Rattle.kf_top.proofs.capacity.trace_capacity.Goals as goal

pub returns-in_err-channel-clause-answer : goal.returns-in_err-channel-clause-answer
returns-in_err-channel-clause-answer c =
    let p = err_from_is_err_and c.from_residual.result c.from_residual.ensures.1 in
    let cleared = c.args.cleared.now in
    rw (p.1, p.2) (unread (turns_of cleared) (program_in cleared) (CapacityIn (turns_of cleared)) c.in_err-channel.field-0.0 c.in_err-channel.ensures.answer)

pub returns-in_err-capacity-clause-answer : goal.returns-in_err-capacity-clause-answer
returns-in_err-capacity-clause-answer c =
    let p = err_from_is_err_and c.from_residual-in_err-capacity.result c.from_residual-in_err-capacity.ensures.1 in
    let cleared = c.args.cleared.now in
    rw (p.1, p.2) (capacity_stops (turns_of cleared) (program_in cleared) (channel_tree c.in_ok-channel.channel) c.in_ok-channel.ensures.answer
    c.in_err-capacity.field-0.0 c.in_err-capacity.ensures.answer)

pub returns-clause-answer : goal.returns-clause-answer
returns-clause-answer c =
    let cleared = c.args.cleared.now in
    let channel = channel_tree c.in_ok-channel.channel in
    let capacity = c.in_ok-capacity.ensures.answer in
    capacity_prints (turns_of cleared) (program_in cleared) channel c.in_ok-channel.ensures.answer capacity.0 c.in_ok-bytes.bytes.items
    (c.in_ok-bytes.ensures.numbers (channel_grid channel) capacity.1)
