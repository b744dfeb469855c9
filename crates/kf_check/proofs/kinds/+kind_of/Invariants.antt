use Rattle.std.proofs.Common.{◌≡◌, map, take}
use Rattle.kf_value.specs.TypeViews.{type_tree}
use Rattle.kf_value.specs.Views.{kind_tree}
use Rattle.kf_value.specs.Kinds.{kind_of}
use Rattle.kf_check.proofs.kinds.+kind_of.Given as goal

abbrev pub invariant-kinds_of-loop-ty : goal.invariant-kinds_of-loop-ty
invariant-kinds_of-loop-ty l = map kind_tree l.kinds.items ≡ map kind_of (map type_tree (take l.ty-index l.types))
