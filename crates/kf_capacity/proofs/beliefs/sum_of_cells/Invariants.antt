use Rattle.std.proofs.Common.{◌≡◌, ◌+◌, ◌≤◌, drop, sum_by}
use Rattle.kf_frac.specs.Fractions.{limit}
use Rattle.kf_hyper.specs.Views.{inners_of}
use Rattle.kf_capacity.specs.Beliefs.{belief_capacity, greatest_cell}
use Rattle.kf_capacity.proofs.beliefs.sum_of_cells.Given as goal

abbrev pub invariant-loop-i : goal.invariant-loop-i
invariant-loop-i l = record {
  same : l.sum + sum_by (greatest_cell l.n (inners_of l.h)) (drop l.i (inners_of l.h)) ≡ belief_capacity l.n (inners_of l.h);
  narrow : l.sum ≤ limit;
}
