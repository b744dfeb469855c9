use Rattle.std.proofs.Common.{◌≡◌, ℕ, map, sum_by, take}
use Rattle.kf_column.specs.Columns.{weight_at, total}
use Rattle.kf_value.specs.Numbers.{target_size}
use Rattle.kf_column.specs.Shapes.{IsBelow}
use Rattle.kf_hyper.specs.ClassViews.{inner_of}
use Rattle.kf_hyper.specs.Views.{target_of}
use Rattle.kf_hyper.specs.Sums.{ArePositive}
use Rattle.kf_column.specs.Averages.{average_weight}
use Rattle.kf_hyper.proofs.hyper.Hyper.average.Given as goal

abbrev pub invariant-loop-class : goal.invariant-loop-class
invariant-loop-class l = record {
  weights : (x : ℕ) → weight_at l.entries.items x ≡ average_weight (map inner_of (take l.class-index l.self.classes.items)) x;
  totals : total l.entries.items ≡ sum_by (λ i. i.total) (map inner_of (take l.class-index l.self.classes.items));
  positive : ArePositive l.entries.items;
  below : IsBelow (target_size (target_of l.self)) l.entries.items;
}
