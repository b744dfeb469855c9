use Rattle.std.proofs.Common.{◌≡◌, drop, map}
use Rattle.kf_hyper.proofs.InPlace.{part_mapped}
use Rattle.kf_capacity.specs.Divided.{shared}
use Rattle.kf_capacity.proofs.Walking.{Ahead}
use Rattle.kf_capacity.proofs.divided.shared.Given as goal

abbrev pub invariant-loop-i : goal.invariant-loop-i
invariant-loop-i l = record {
  part : l.secrets.items ≡ part_mapped (shared l.entries) l.i l.fn.secrets.items;
  ahead : Ahead l.entries (drop l.from l.entries) 0 (drop l.i (map (λ s. s.value) l.fn.secrets.items));
}
