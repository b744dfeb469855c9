use Rattle.kf_json.specs.Json.{text_of}
use Rattle.kf_refine.specs.Views.{fraction_of}
use Rattle.kf_cert.specs.Numbers.{fraction_said}
use Rattle.kf_cert.specs.Reading.{reads_fraction}
use Rattle.kf_cert.proofs.Gathered.{Gathers}
use Rattle.kf_cert.proofs.reader.content.row.Given as goal

abbrev pub invariant-loop-value : goal.invariant-loop-value
invariant-loop-value l = Gathers (λ d. fraction_said (text_of d)) fraction_of reads_fraction l.value-items l.value-index l.made.items
