use Rattle.std.proofs.Common.{ap, ◌∙◌}
use Rattle.std.proofs.lemmas.Result.{err_from_is_err_and}
use Rattle.kf_core.specs.Joint.{joint_of}
use Rattle.kf_load.specs.Views.{program_in}
use Rattle.kf_channel.specs.Views.{rows_of, secrets_of}
use Rattle.kf_support.specs.Cleared.{turns_of}
use Rattle.kf_text.specs.Texts.{channel_text}
use Rattle.kf_top.specs.Answer.{prints}
use Rattle.kf_top.specs.Steps.{ChannelOf}
use Rattle.kf_top.proofs.Capacities.{unread}
use Rattle.kf_top.proofs.hyper.channel.Goals as goal

pub returns-in_err-channel-clause-answer : goal.returns-in_err-channel-clause-answer
returns-in_err-channel-clause-answer c =
    let e = err_from_is_err_and c.from_residual.result c.from_residual.ensures.1 in
    let turns = turns_of c.args.cleared.now in
    rw (e.1, e.2) (unread turns (program_in c.args.cleared.now) (λ p. ChannelOf p.target (joint_of turns p)) c.in_err-channel.field-0.0 c.in_err-channel.ensures.answer)

pub returns-clause-answer : goal.returns-clause-answer
returns-clause-answer c =
    let channel = c.in_ok-channel.channel in
    let is = c.in_ok-channel.ensures.answer in
    let rows = rows_of channel in
    let secrets = secrets_of channel in
    let text = c.in_ok-bytes.ensures ∙ ap (λ target. channel_text target rows secrets) is.1.target in
    (program_in c.args.cleared.now, is.0, (rows, is.1.rows, (secrets, is.1.secrets, ap prints text)))
