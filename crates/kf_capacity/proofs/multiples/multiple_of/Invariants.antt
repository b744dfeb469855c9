use Rattle.std.proofs.Common.{◌≡◌, ◌<◌, ◌≤◌, drop, map}
use Rattle.kf_frac.specs.Fractions.{limit}
use Rattle.kf_frac.specs.Laws.{multiple_from}
use Rattle.kf_capacity.specs.Divided.{den_of}
use Rattle.kf_capacity.proofs.multiples.multiple_of.Given as goal

abbrev pub invariant-loop-secret : goal.invariant-loop-secret
invariant-loop-secret l = record {
  same : multiple_from l.multiple (map den_of (drop l.secret-index l.secrets)) ≡ multiple_from 1 (map den_of l.secrets);
  some : 0 < l.multiple;
  narrow : l.multiple ≤ limit;
}
