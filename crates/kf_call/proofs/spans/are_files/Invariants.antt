use Rattle.std.proofs.Common.{All, take}
use Rattle.kf_call.specs.Calls.{IsFile}
use Rattle.kf_call.proofs.spans.are_files.Given as goal

abbrev pub invariant-loop-file : goal.invariant-loop-file
invariant-loop-file l = record { files : All (IsFile l.bytes) (take l.file-index l.files) }
