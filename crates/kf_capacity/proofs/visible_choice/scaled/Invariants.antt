use Rattle.std.proofs.Common.{◌≡◌, ◌++◌, drop}
use Rattle.kf_capacity.specs.Compositions.{times}
use Rattle.kf_capacity.proofs.visible_choice.scaled.Given as goal

abbrev pub invariant-loop-n : goal.invariant-loop-n
invariant-loop-n l = l.items.items ++ times l.factor (drop l.n-index l.column) ≡ times l.factor l.column
