use Rattle.kf_cert.specs.Parts.{action_said}
use Rattle.kf_cert.specs.Reading.{reads_action}
use Rattle.kf_cert.specs.declared.cert.CertAction.{CertAction}
use Rattle.kf_cert.proofs.Gathered.{Gathers}
use Rattle.kf_cert.proofs.reader.content.actions.Given as goal

abbrev pub invariant-loop-value : goal.invariant-loop-value
invariant-loop-value l = Gathers action_said (λ (a : CertAction). a) reads_action l.value-items l.value-index l.made.items
