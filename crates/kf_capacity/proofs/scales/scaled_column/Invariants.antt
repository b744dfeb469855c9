use Rattle.std.proofs.Common.{◌≡◌, map, drop, take}
use Rattle.kf_capacity.specs.Divided.{number_in}
use Rattle.kf_capacity.proofs.Walking.{Ahead}
use Rattle.kf_capacity.proofs.scales.scaled_column.Given as goal

abbrev pub invariant-loop-scale : goal.invariant-loop-scale
invariant-loop-scale l = record {
  same : l.numbers.items ≡ take l.scale-index (map (number_in l.entries) l.scales);
  ahead : Ahead l.entries (drop l.from l.entries) 0 (drop l.scale-index (map (λ s. s.value) l.scales));
}
