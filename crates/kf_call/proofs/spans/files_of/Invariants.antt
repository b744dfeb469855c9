use Rattle.std.proofs.Common.{◌≡◌, take}
use Rattle.kf_call.specs.Calls.{files_in}
use Rattle.kf_call.proofs.spans.files_of.Given as goal

abbrev pub invariant-loop-file : goal.invariant-loop-file
invariant-loop-file l = record { files : l.made.items ≡ files_in l.bytes (take l.file-index l.files) }
