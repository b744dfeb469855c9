use Rattle.std.proofs.Common.{◌≡◌, drop}
use Rattle.kf_call.specs.Calls.{files_in}
use Rattle.kf_call.specs.Contents.{file_named}
use Rattle.kf_call.proofs.line.is_missing.Given as goal

abbrev pub invariant-loop-file : goal.invariant-loop-file
invariant-loop-file l = record { ahead : file_named (files_in l.bytes l.files) l.name ≡ file_named (files_in l.bytes (drop l.file-index l.files)) l.name }
