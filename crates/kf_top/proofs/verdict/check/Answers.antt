use Rattle.std.proofs.Common.{[], ◌∷◌}
use Rattle.std.proofs.lemmas.Result.{err_from_is_err_and}
use Rattle.kf_cert.specs.Views.{cert_tree}
use Rattle.kf_load.specs.Views.{program_in}
use Rattle.kf_support.specs.Cleared.{turns_of}
use Rattle.kf_top.specs.Answer.{CertIn, MarkOn}
use Rattle.kf_top.specs.Views.{shown}
use Rattle.kf_top.proofs.Readings.{counts_next, file_next, file_stops}
use Rattle.kf_top.proofs.verdict.check.Goals as goal

pub returns-in_err-cert-clause-answer : goal.returns-in_err-cert-clause-answer
returns-in_err-cert-clause-answer g c =
    let p = err_from_is_err_and c.from_residual.result c.from_residual.ensures.1 in
    let pair = c.args.pair.now in
    rw (p.1, p.2) (file_stops _ _ _ c.args.name.now CertIn (λ file. MarkOn (turns_of pair.first) (program_in pair.first) (program_in pair.second)) cert_tree shown
    c.in_err-cert.field-0.0 c.in_err-cert.ensures.answer)

pub returns-in_err-cert-clause-counts : goal.returns-in_err-cert-clause-counts
returns-in_err-cert-clause-counts g c =
    let p = err_from_is_err_and c.from_residual.result c.from_residual.ensures.1 in
    rw (p.1, p.2) c.in_err-cert.ensures.counts

pub returns-clause-answer : goal.returns-clause-answer
returns-clause-answer g c =
    let pair = c.args.pair.now in
    file_next _ _ _ c.args.name.now CertIn (λ file. MarkOn (turns_of pair.first) (program_in pair.first) (program_in pair.second)) cert_tree shown
    c.in_ok-cert.cert c.marked.result c.in_ok-cert.ensures.answer (λ file. c.marked.ensures.answer)

pub returns-clause-counts : goal.returns-clause-counts
returns-clause-counts g c = counts_next (c.args.name.now ∷ []) _ _ c.marked.result c.in_ok-cert.ensures.counts c.marked.ensures.read
