use Rattle.std.proofs.Common.{◌≡◌, map, take}
use Rattle.kf_value.specs.Views.{kind_tree}
use Rattle.kf_ops.specs.Places.{pattern_kind}
use Rattle.kf_check.proofs.rows.fits.Given as goal

abbrev pub invariant-loop-i : goal.invariant-loop-i
invariant-loop-i l = map kind_tree (take l.i l.kinds) ≡ map (pattern_kind (kind_tree l.any)) (take l.i l.patterns)
