use Rattle.std.proofs.Common.{◌≡◌, ◌<◌, ℕ, true, All, Contains, length}
use Rattle.kf_value.specs.Shapes.{shape_types}
use Rattle.kf_core.specs.Views.{dx_shape}
use Rattle.kf_eval.specs.Reads.{dist_reads}
use Rattle.kf_eval.proofs.read_slots.slots_read.Given as goal

abbrev pub invariant-loop-i : goal.invariant-loop-i
invariant-loop-i l = record {
  within : All (λ j. j < length (shape_types l.shape)) l.slots.items;
  all : (j : ℕ) → j < l.i → dist_reads j (dx_shape l.dist.node) ≡ true → Contains l.slots.items j;
}
