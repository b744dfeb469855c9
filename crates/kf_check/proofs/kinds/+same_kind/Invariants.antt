use Rattle.std.proofs.Common.{◌≡◌, map, take}
use Rattle.kf_value.specs.Views.{kind_tree}
use Rattle.kf_check.proofs.kinds.+same_kind.Given as goal

abbrev pub invariant-same_kinds-loop-i : goal.invariant-same_kinds-loop-i
invariant-same_kinds-loop-i l = map kind_tree (take l.i l.xs) ≡ map kind_tree (take l.i l.ys)
