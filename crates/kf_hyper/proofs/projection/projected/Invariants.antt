use Rattle.std.proofs.Common.{◌≡◌, ◌<◌, take}
use Rattle.kf_value.specs.Types.{product}
use Rattle.kf_value.specs.Shapes.{shape_sizes}
use Rattle.kf_column.specs.Projection.{at_places, projected}
use Rattle.kf_hyper.proofs.projection.projected.Given as goal

abbrev pub invariant-loop-slot : goal.invariant-loop-slot
invariant-loop-slot l = record {
  number : l.number ≡ projected (shape_sizes l.shape) (take l.slot-index l.slots) l.store;
  below : l.number < product (at_places (take l.slot-index l.slots) (shape_sizes l.shape));
}
