use Rattle.std.proofs.Common.{◌≤◌, ◌*◌, sum_by, take, drop}
use Rattle.std.specs.Prelude.{ℤ, ◌+ℤ◌, unsigned_abs}
use Rattle.kf_column.specs.Hypers.{Inner}
use Rattle.kf_hyper.specs.Views.{inners_of}
use Rattle.kf_gain.specs.Gains.{Table}
use Rattle.kf_gain.specs.Vulnerabilities.{IsPosterior}
use Rattle.kf_gain.specs.Views.{table_tree}
use Rattle.kf_cert.specs.Naming.{table_width}
use Rattle.kf_cert.proofs.gain_rules.posterior.seen.Given as goal

abbrev pub invariant-loop-i : goal.invariant-loop-i
invariant-loop-i l = record {
  others : (y : ℤ) → IsPosterior (Table (table_tree l.table)) (drop l.i (inners_of l.h)) y → IsPosterior (Table (table_tree l.table)) (inners_of l.h) (l.sum +ℤ y);
  within : unsigned_abs l.sum ≤ sum_by (λ (j : Inner). j.total) (take l.i (inners_of l.h)) * table_width (table_tree l.table);
}
