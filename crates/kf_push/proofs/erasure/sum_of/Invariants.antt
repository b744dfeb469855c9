use Rattle.std.proofs.Common.{◌≡◌, ◌<◌, ℕ, All, sum_by, take}
use Rattle.kf_column.specs.Columns.{weight_at, total}
use Rattle.kf_column.specs.Joint.{mass}
use Rattle.kf_column.specs.Shapes.{IsBelow}
use Rattle.kf_hyper.specs.Sums.{ArePositive}
use Rattle.kf_push.proofs.erasure.sum_of.Given as goal

abbrev pub invariant-loop-column : goal.invariant-loop-column
invariant-loop-column l = record {
  weights : (x : ℕ) → weight_at l.entries.items x ≡ sum_by (λ c. weight_at c x) (take l.column-index l.columns);
  totals : total l.entries.items ≡ mass (take l.column-index l.columns);
  some : 0 < l.column-index → 0 < total l.entries.items;
  positive : ArePositive l.entries.items;
  below : (size : ℕ) → All (IsBelow size) l.columns → IsBelow size l.entries.items;
}
