use Rattle.kf_load.proofs.Lines.{Behind}
use Rattle.kf_load.proofs.position.after.Given as goal

abbrev pub invariant-loop-byte : goal.invariant-loop-byte
invariant-loop-byte l = Behind l.bytes l.byte-index l.line l.column
