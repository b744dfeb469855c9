use Rattle.std.proofs.Common.{◌≡◌, ◌+◌, ◌≤◌, length, take}
use Rattle.std.specs.List.{flat_map}
use Rattle.std.specs.Io.KnownBytes.{Appends}
use Rattle.kf_io.proofs.writing.write_pieces.Given as goal

abbrev pub invariant-pieces : goal.invariant-pieces
invariant-pieces g l = record {
  took : Appends (g.O.Sink.taken l.initial.sink) (g.O.Sink.taken l.sink) (flat_map (λ p. p.now) (take l.piece-index l.pieces));
  same : g.O.Sink.faults l.sink ≡ g.O.Sink.faults l.initial.sink;
  left : g.O.Sink.room l.initial.sink ≤ g.O.Sink.room l.sink + length (flat_map (λ p. p.now) (take l.piece-index l.pieces));
}
