use Rattle.std.proofs.Common.{◌∙◌}
use Rattle.kf_call.proofs.Lines.{is_message}
use Rattle.kf_call.proofs.line.unread_name.Goals as goal

pub returns-in-Ok : goal.returns-in-Ok
returns-in-Ok c =
    let first = c.in_ok-strip_prefix.ensures.cases in
    let second = c.in_ok-name.ensures.cases in
    is_message c.args.line.now c.in_ok-strip_prefix.field-0.now c.in-Ok.name.now first.0 first.1 second.0 (c.in-Ok.ensures.cases.0 ∙ second.1)
