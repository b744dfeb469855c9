use Rattle.std.proofs.Common.{◌≡◌, map, take}
use Rattle.kf_value.specs.TypeViews.{item_of}
use Rattle.kf_value.proofs.equality.same_items.Given as goal

abbrev pub invariant-loop-i : goal.invariant-loop-i
invariant-loop-i l = map item_of (take l.i l.xs) ≡ map item_of (take l.i l.ys)
