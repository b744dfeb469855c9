use Rattle.std.proofs.Common.{◌<◌, All, take}
use Rattle.std.specs.Int.{◌∣◌}
use Rattle.kf_capacity.proofs.beliefs.multiple_of_weights.Given as goal

abbrev pub invariant-loop-entry : goal.invariant-loop-entry
invariant-loop-entry l = record {
  some : 0 < l.multiple;
  seen : All (λ e. e.weight ∣ l.multiple) (take l.entry-index l.entries);
}
