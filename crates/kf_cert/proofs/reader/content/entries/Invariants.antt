use Rattle.kf_cert.specs.Reading.{gain_said, reads_gain}
use Rattle.kf_cert.specs.declared.cert.CertEntry.{CertEntry}
use Rattle.kf_cert.proofs.Gathered.{Gathers}
use Rattle.kf_cert.proofs.reader.content.entries.Given as goal

abbrev pub invariant-loop-gain : goal.invariant-loop-gain
invariant-loop-gain l = Gathers gain_said (λ (e : CertEntry). e) reads_gain l.gain-items l.gain-index l.made.items
