use Rattle.std.proofs.Common.{length, ◌-◌, ◌+◌, ◌≡◌, ◌≤◌, take}
use Rattle.std.specs.Io.KnownBytes.{Appends}
use Rattle.kf_io.proofs.writing.write_all.Given as goal

abbrev pub invariant-pieces : goal.invariant-pieces
invariant-pieces g l = record {
  within : l.done ≤ length l.bytes;
  took : Appends (g.O.Sink.taken l.initial.sink) (g.O.Sink.taken l.sink) (take l.done l.bytes);
  same : g.O.Sink.faults l.sink ≡ g.O.Sink.faults l.initial.sink;
  left : g.O.Sink.room l.initial.sink ≤ g.O.Sink.room l.sink + l.done;
}

abbrev pub decreases-pieces : goal.decreases-pieces
decreases-pieces g l = length l.bytes - l.done
