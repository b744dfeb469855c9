use Rattle.std.proofs.Common.{◌≡◌, take}
use Rattle.std.specs.List.{AllByRecursion as Each}
use Rattle.kf_value.specs.Views.{value_tree}
use Rattle.kf_run.proofs.column_spread.front_of.Given as goal

abbrev pub invariant-loop-i : goal.invariant-loop-i
invariant-loop-i l = Each (λ m. value_tree m.value ≡ value_tree l.first) (take l.i l.leaks)
