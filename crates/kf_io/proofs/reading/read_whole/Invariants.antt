use Rattle.std.proofs.Common.{◌-◌, ◌≡◌, ◌≤◌, vec_len}
use Rattle.std.specs.Option.{ForSome}
use Rattle.kf_io.specs.Reads.{IsFront}
use Rattle.kf_io.proofs.reading.read_whole.Given as goal

abbrev pub invariant-pieces : goal.invariant-pieces
invariant-pieces g l = record {
  within : vec_len l.bytes ≤ 1048577;
  told : ForSome (g.F.Files.contents l.initial.files) (λ c. IsFront (c l.name) l.bytes.items);
  unchanged : g.F.Files.contents l.files ≡ g.F.Files.contents l.initial.files;
  same : g.F.Files.faults l.files ≡ g.F.Files.faults l.initial.files;
}

abbrev pub decreases-pieces : goal.decreases-pieces
decreases-pieces g l = 1048577 - vec_len l.bytes
