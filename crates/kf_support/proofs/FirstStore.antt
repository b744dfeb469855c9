-- The first store, and the way to it.
use Rattle.std.proofs.Common.{[], ◌∷◌, arith}
use Rattle.std.proofs.lemmas.List.Elements.{All-nil, All-cons}
use Rattle.kf_value.specs.Types.{product}
use Rattle.kf_value.specs.Shapes.{shape_sizes}
use Rattle.kf_value.specs.declared.shape.Shape.{Shape}
use Rattle.kf_core.proofs.FirstStore.{first_store_there}
use Rattle.kf_support.specs.Answers.{AreReached}
use Rattle.kf_support.proofs.Adding.{IsWay}

-- one way to it, of scale 1
pub first_store : (shape : Shape) → AreReached (product (shape_sizes shape)) ((0, 1) ∷ [])
first_store shape =
    let size = product (shape_sizes shape) in
    (All-cons (IsWay size) (0, 1) [] (first_store_there shape, (omega arith, omega arith)) (All-nil (IsWay size)), (tt, tt))
