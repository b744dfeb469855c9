use Rattle.std.proofs.Common.{◌≡◌, true≢false, sym, Ok, ◌∙◌}
use Rattle.kf_cert.specs.Views.{cert_tree}
use Rattle.kf_refine.specs.Views.{hyper_tree}
use Rattle.kf_top.specs.Answer.{mark_shown, shows}
use Rattle.kf_top.proofs.Verdicts.{other_target, no_mark, a_mark}
use Rattle.kf_top.proofs.verdict.marked_on.Goals as goal

pub returns-then-not-same_target-clause-answer : goal.returns-then-not-same_target-clause-answer
returns-then-not-same_target-clause-answer c turns p q are =
    let hypers = c.args.hypers.now in
    other_target turns p q (hyper_tree hypers.a) (hyper_tree hypers.b) are (cert_tree c.args.cert.now)
    (λ same. true≢false (sym (c.same_target.ensures.1 (c.target.ensures ∙ same ∙ sym c.target-2.ensures)) ∙ c.if-not-same_target.true))

pub returns-in-Err-Wide-clause-answer : goal.returns-in-Err-Wide-clause-answer
returns-in-Err-Wide-clause-answer c turns p q are =
    let hypers = c.args.hypers.now in
    no_mark turns p q (hyper_tree hypers.a) (hyper_tree hypers.b) are (cert_tree c.args.cert.now)
    (sym c.target.ensures ∙ c.same_target.ensures.0 c.if-not-same_target.false ∙ c.target-2.ensures)
    c.in-Err-Wide.field-0 c.in-Err-Wide.field-0-is c.in-Err-Wide.ensures.err

pub returns-clause-answer : goal.returns-clause-answer
returns-clause-answer c turns p q are =
    let hypers = c.args.hypers.now in
    let mark = c.in-Ok.mark in
    let prints : shows c.is_accepted-yes.result c.in_ok-bytes.bytes.items ≡ mark_shown (Ok mark) = (λ i. shows (c.is_accepted-yes.ensures i) (c.in_ok-bytes.ensures i)) in
    rw prints (a_mark turns p q (hyper_tree hypers.a) (hyper_tree hypers.b) are (cert_tree c.args.cert.now)
    (sym c.target.ensures ∙ c.same_target.ensures.0 c.if-not-same_target.false ∙ c.target-2.ensures) mark c.in-Ok.ensures.is)
