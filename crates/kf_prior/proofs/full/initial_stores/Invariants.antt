use Rattle.std.proofs.Common.{◌≡◌, map, take}
use Rattle.kf_value.specs.Shapes.{shape_types}
use Rattle.kf_value.specs.Types.{count, product}
use Rattle.kf_prior.proofs.full.initial_stores.Given as goal

abbrev pub invariant-loop-i : goal.invariant-loop-i
invariant-loop-i l = l.stores ≡ product (map count (take l.i (shape_types l.program.shape)))
