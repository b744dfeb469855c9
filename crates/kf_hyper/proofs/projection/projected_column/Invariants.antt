use Rattle.std.proofs.Common.{◌≡◌, map, take}
use Rattle.kf_value.specs.Types.{product}
use Rattle.kf_value.specs.Shapes.{shape_sizes}
use Rattle.kf_column.specs.Shapes.{IsBelow}
use Rattle.kf_column.specs.Projection.{at_places, projected}
use Rattle.kf_hyper.proofs.Moving.{moved}
use Rattle.kf_hyper.proofs.projection.projected_column.Given as goal

abbrev pub invariant-loop-entry : goal.invariant-loop-entry
invariant-loop-entry l = record {
  moved : l.entries.items ≡ map (moved (projected (shape_sizes l.shape) l.slots)) (take l.entry-index l.whole);
  below : IsBelow (product (at_places l.slots (shape_sizes l.shape))) l.entries.items;
}
