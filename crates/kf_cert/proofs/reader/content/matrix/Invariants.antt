use Rattle.std.proofs.Common.{map}
use Rattle.kf_refine.specs.Views.{fraction_of}
use Rattle.kf_cert.specs.Parts.{row_said}
use Rattle.kf_cert.specs.Reading.{reads_row}
use Rattle.kf_cert.proofs.Gathered.{Gathers}
use Rattle.kf_cert.proofs.reader.content.matrix.Given as goal

abbrev pub invariant-loop-value : goal.invariant-loop-value
invariant-loop-value l = Gathers row_said (map fraction_of) reads_row l.value-items l.value-index l.made.items
