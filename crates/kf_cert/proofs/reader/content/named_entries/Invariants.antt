use Rattle.kf_cert.specs.Parts.{entry_said}
use Rattle.kf_cert.specs.Reading.{reads_entry}
use Rattle.kf_cert.specs.Views.{entry_tree}
use Rattle.kf_cert.proofs.Gathered.{Gathers}
use Rattle.kf_cert.proofs.reader.content.named_entries.Given as goal

abbrev pub invariant-loop-value : goal.invariant-loop-value
invariant-loop-value l = Gathers entry_said entry_tree reads_entry l.value-items l.value-index l.made.items
