use Rattle.std.proofs.Common.{◌≡◌, ◌+◌, ◌≤◌, drop, sum_by}
use Rattle.kf_frac.specs.Fractions.{limit}
use Rattle.kf_capacity.proofs.capacities.sum_of_greatest.Given as goal
use Rattle.kf_capacity.specs.Vulnerabilities.{greatest}

abbrev pub invariant-loop-column : goal.invariant-loop-column
invariant-loop-column l = record {
  same : l.sum + sum_by greatest (drop l.column-index l.columns) ≡ sum_by greatest l.columns;
  narrow : l.sum ≤ limit;
}
