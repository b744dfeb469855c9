use Rattle.std.proofs.Common.{◌≡◌, ◌*◌, drop}
use Rattle.kf_value.specs.Shapes.{shape_size, shape_sizes}
use Rattle.kf_value.specs.Types.{product}
use Rattle.kf_layer_tests.proofs.tests.programs.stores_of.Given as goal

abbrev pub invariant-loop-i : goal.invariant-loop-i
invariant-loop-i l = l.stores * product (drop l.i (shape_sizes l.shape)) ≡ shape_size l.shape
