use Rattle.kf_laws.proofs.ClearedPrograms.{are_clear}
use Rattle.kf_laws.proofs.OneAnswer.{one_cleared}
use Rattle.kf_laws.proofs.ProperHypers.{are_proper}
use Rattle.kf_laws.proofs.WrittenCertificates.{certificates_accepted}
use Rattle.kf_laws.proofs.definitions.certificates_accepted.Goals as goal

pub returns : goal.returns
returns c =
    let program = c.grammar.ensures in
    let refused = c.refusals.ensures in
    let typed = c.type_laws.ensures in
    let joint = c.joint_laws.ensures in
    let run = c.run_laws.ensures in
    let cert = c.cert_laws.ensures in
    certificates_accepted (one_cleared c.one_reading.ensures program.one refused.both refused.refusal typed.one typed.typed)
    c.reasoned_refusals.ensures.tasks (are_clear c.full_laws.ensures.built typed.checked typed.sizes program.built) joint.one_hyper
    (are_proper joint.whole run.positive run.least) c.verdict_laws.ensures.prove cert.reads_back cert.written
