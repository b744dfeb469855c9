use Rattle.std.proofs.Common.{◌*◌, take}
use Rattle.kf_column.specs.Columns.{weight_at, total}
use Rattle.kf_hyper.specs.Sums.{summed, ArePositive, Gains}
use Rattle.kf_cert.proofs.matrix_rules.weights.add_all.Given as goal

abbrev pub invariant-loop-entry : goal.invariant-loop-entry
invariant-loop-entry l = record {
  gains : Gains (λ x. l.times * weight_at (take l.entry-index l.entries) x) (l.times * total (take l.entry-index l.entries)) (summed l.initial.sums.entries) (summed l.sums.entries);
  positive : ArePositive (summed l.initial.sums.entries) → ArePositive (summed l.sums.entries);
}
