use Rattle.std.proofs.Common.{◌≡◌, ◌+◌, ◌≤◌, drop, map, sum_by}
use Rattle.kf_frac.specs.Fractions.{limit}
use Rattle.kf_capacity.specs.Composing.{products}
use Rattle.kf_capacity.specs.Vulnerabilities.{greatest}
use Rattle.kf_capacity.proofs.pair_sums.sum_with.Given as goal

abbrev pub invariant-loop-other : goal.invariant-loop-other
invariant-loop-other l = record {
  same : l.sum + sum_by greatest (map (products l.column) (drop l.other-index l.others)) ≡ l.start + sum_by greatest (map (products l.column) l.others);
  narrow : l.sum ≤ limit;
}
