use Rattle.std.proofs.Common.{◌≡◌, ◌+◌, ◌≤◌, drop, map, sum_by}
use Rattle.std.specs.List.{flat_map}
use Rattle.kf_frac.specs.Fractions.{limit}
use Rattle.kf_capacity.specs.Composing.{products}
use Rattle.kf_capacity.specs.Vulnerabilities.{greatest}
use Rattle.kf_capacity.proofs.pair_sums.sum_of_pairs.Given as goal

abbrev pub invariant-loop-column : goal.invariant-loop-column
invariant-loop-column l = record {
  same : l.sum + sum_by greatest (flat_map (λ column. map (products column) l.others) (drop l.column-index l.columns))
      ≡ sum_by greatest (flat_map (λ column. map (products column) l.others) l.columns);
  narrow : l.sum ≤ limit;
}
