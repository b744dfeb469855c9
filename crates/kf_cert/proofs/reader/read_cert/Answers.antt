use Rattle.std.proofs.Common.{◌≡◌, Ok, Err, IfOk, IfErr, subst}
use Rattle.std.specs.Prelude.{◌≢◌}
use Rattle.serde_json.specs.View.{view}
use Rattle.kf_cert.specs.Views.{cert_tree}
use Rattle.kf_cert.specs.declared.cert.CertError.TheVariants as broken
use Rattle.kf_cert.proofs.Formed.{cert_told, sound_read}
use Rattle.kf_cert.proofs.reader.read_cert.Goals as goal

pub returns-clause-is : goal.returns-clause-is
returns-clause-is c =
    subst (λ said. IfOk c.cert_said.result (λ cert. said ≡ Ok (cert_tree cert))) (cert_told c.args.bytes.now (view c.in_ok-value.value) c.in_ok-value.ensures.ok) c.cert_said.ensures.is

pub returns-clause-sound : goal.returns-clause-sound
returns-clause-sound c =
    sound_read c.args.bytes.now c.cert_said.result
    (subst (λ said. IfOk c.cert_said.result (λ cert. said ≡ Ok (cert_tree cert))) (cert_told c.args.bytes.now (view c.in_ok-value.value) c.in_ok-value.ensures.ok) c.cert_said.ensures.is)

pub returns-clause-err : goal.returns-clause-err
returns-clause-err c =
    subst (λ said. IfErr c.cert_said.result (λ e. e ≢ broken.Mem → said ≡ Err e)) (cert_told c.args.bytes.now (view c.in_ok-value.value) c.in_ok-value.ensures.ok) c.cert_said.ensures.err
