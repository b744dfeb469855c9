use Rattle.std.proofs.Common.{◌∙◌, sym, ap, Ok, Err, subst, ◌≡◌}
use Rattle.std.proofs.lemmas.Result.{err_from_is_err_and}
use Rattle.serde_json.specs.View.{view}
use Rattle.kf_cert.specs.Certificates.{names_in_order}
use Rattle.kf_cert.specs.declared.cert.CertError.TheVariants as broken
use Rattle.kf_cert.proofs.Formed.{formed, cert_misformed, cert_read, cert_unordered, cert_wide}
use Rattle.kf_cert.proofs.reader.cert_said.Goals as goal

pub returns-in-Some-clause-err : goal.returns-in-Some-clause-err
returns-in-Some-clause-err c = λ other. cert_misformed (view c.args.value.now) c.in-Some.fault (sym c.broken_form.ensures ∙ c.in-Some.is)

pub returns-in_err-cert-clause-err : goal.returns-in_err-cert-clause-err
returns-in_err-cert-clause-err c =
    let p = err_from_is_err_and c.from_residual.result c.from_residual.ensures.1 in
    let f = formed (view c.args.value.now) (sym c.broken_form.ensures ∙ c.in_default.is) in
    rw p.1 (λ other.
    let told = c.in_err-cert.ensures.err (subst (λ e. e ≡ broken.Mem → ⊥) p.2 other) in
    cert_wide (view c.args.value.now) f told.1 ∙ ap (λ e. Err e) (sym (p.2 ∙ told.0)))

pub returns-then-not-names_in_order-clause-err : goal.returns-then-not-names_in_order-clause-err
returns-then-not-names_in_order-clause-err c = λ other.
    let f = formed (view c.args.value.now) (sym c.broken_form.ensures ∙ c.in_default.is) in
    cert_unordered (view c.args.value.now) f c.in_ok-cert.ensures.reads
    (ap names_in_order (sym c.in_ok-cert.ensures.ok) ∙ sym c.names_in_order.ensures ∙ c.if-not-names_in_order.true)

pub returns-clause-is : goal.returns-clause-is
returns-clause-is c =
    let f = formed (view c.args.value.now) (sym c.broken_form.ensures ∙ c.in_default.is) in
    cert_read (view c.args.value.now) f c.in_ok-cert.ensures.reads
    (ap names_in_order (sym c.in_ok-cert.ensures.ok) ∙ sym c.names_in_order.ensures ∙ c.if-not-names_in_order.false)
    ∙ ap (λ t. Ok t) (sym c.in_ok-cert.ensures.ok)
