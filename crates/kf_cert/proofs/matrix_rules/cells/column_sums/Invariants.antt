use Rattle.std.proofs.Common.{◌≡◌, ℕ, take}
use Rattle.kf_column.specs.Columns.{weight_at, total}
use Rattle.kf_hyper.specs.Sums.{summed, ArePositive}
use Rattle.kf_refine.specs.Views.{hyper_tree}
use Rattle.kf_cert.specs.Cells.{share_weight, share_total}
use Rattle.kf_cert.proofs.matrix_rules.cells.column_sums.Given as goal

abbrev pub invariant-loop-share : goal.invariant-loop-share
invariant-loop-share l = record {
  weights : (x : ℕ) → weight_at (summed l.sums.entries) x ≡ share_weight (hyper_tree l.a) (take l.share-index l.column) x;
  total : total (summed l.sums.entries) ≡ share_total (hyper_tree l.a) (take l.share-index l.column);
  positive : ArePositive (summed l.sums.entries);
}
