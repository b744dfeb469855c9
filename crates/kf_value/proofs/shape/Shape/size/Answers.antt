use Rattle.std.proofs.Common.{arith}
use Rattle.std.proofs.lemmas.List.{length-map}
use Rattle.kf_value.specs.Types.{count}
use Rattle.kf_value.specs.Shapes.{shape_types, shape_sizes}
use Rattle.kf_value.proofs.Digits.{entry, size_small}
use Rattle.kf_value.proofs.Widening.{place_size}
use Rattle.kf_value.proofs.shape.Shape.size.Goals as goal

pub overflow_cast-result : goal.overflow_cast-result
overflow_cast-result c =
    let sizes = length-map (shape_types c.args.self.now) count in
    let size = entry place_size c.args.self.now.places.items (shape_sizes c.args.self.now) c.args.i c.index.result.now c.args.self.now.sizes_are (omega arith) c.index.ensures in
    let small = size_small (shape_types c.args.self.now) c.args.i c.args.self.now.sized c.requires in
    rw c.number.ensures (omega arith)
