use Rattle.std.proofs.Common.{◌≡◌, ◌<◌, ◌≤◌, map, drop}
use Rattle.kf_frac.specs.Fractions.{limit}
use Rattle.kf_frac.specs.Laws.{multiple_from}
use Rattle.kf_cert.specs.Rows.{dens}
use Rattle.kf_cert.specs.Views.{entry_tree}
use Rattle.kf_cert.proofs.matrix_rules.sums.common_multiple.Given as goal

abbrev pub invariant-loop-entry : goal.invariant-loop-entry
invariant-loop-entry l = record {
  same : multiple_from l.multiple (dens (map entry_tree (drop l.entry-index l.entries))) ≡ multiple_from 1 (dens (map entry_tree l.entries));
  some : 0 < l.multiple;
  narrow : l.multiple ≤ limit;
}
