use Rattle.std.proofs.Common.{◌≡◌, ◌≤◌, ◌+◌, ◌*◌, ℕ, ◌+ℤ◌, unsigned_abs, drop, length}
use Rattle.kf_frac.specs.Fractions.{limit}
use Rattle.kf_column.specs.Columns.{total}
use Rattle.kf_gain.specs.Views.{table_tree}
use Rattle.kf_gain.specs.Vulnerabilities.{greatest, gains_of}
use Rattle.kf_cert.specs.NamedGains.{sum_at, AreBelow, column_excess}
use Rattle.kf_cert.proofs.gain_rules.posterior.best_gain.Given as goal

abbrev pub invariant-loop-entry : goal.invariant-loop-entry
invariant-loop-entry l = record {
  sums : (k : ℕ) → sum_at l.sums k +ℤ column_excess (table_tree l.table) k (drop l.entry-index l.entries) ≡ column_excess (table_tree l.table) k l.entries;
  fits : (k : ℕ) → unsigned_abs (sum_at l.sums k) + total (drop l.entry-index l.entries) * (2 * greatest (gains_of (table_tree l.table))) ≤ limit;
  below : AreBelow (length l.table.actions) l.sums;
}
