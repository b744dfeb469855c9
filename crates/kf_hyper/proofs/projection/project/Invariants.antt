use Rattle.std.proofs.Common.{◌≡◌, All, map, take}
use Rattle.kf_value.specs.Types.{product}
use Rattle.kf_value.specs.Shapes.{shape_sizes}
use Rattle.kf_column.specs.Columns.{weight_at}
use Rattle.kf_column.specs.Shapes.{IsBelow}
use Rattle.kf_column.specs.Joint.{mass}
use Rattle.kf_column.specs.Projection.{at_places, projected, weight_through}
use Rattle.kf_hyper.proofs.projection.project.Given as goal

abbrev pub invariant-loop-column : goal.invariant-loop-column
invariant-loop-column l = record {
  weights : map weight_at l.list.items ≡ map (weight_through (projected (shape_sizes l.shape) l.slots)) (take l.column-index l.columns.columns);
  below : All (IsBelow (product (at_places l.slots (shape_sizes l.shape)))) l.list.items;
  mass : mass l.list.items ≡ mass (take l.column-index l.columns.columns);
}
