use Rattle.std.proofs.Common.{◌≡◌, ℕ, ◌≤◌, drop}
use Rattle.kf_column.specs.Columns.{weight_at}
use Rattle.kf_capacity.proofs.weights.weight_from.Given as goal

abbrev pub invariant-loop-place : goal.invariant-loop-place
invariant-loop-place l = (x : ℕ) → l.value ≤ x → weight_at (drop l.place l.entries) x ≡ weight_at (drop l.fn.from l.entries) x
