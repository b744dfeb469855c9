use Rattle.std.proofs.Common.{◌≡◌, ◌*◌, drop}
use Rattle.kf_value.specs.Shapes.{shape_sizes}
use Rattle.kf_eval.specs.Reads.{span}
use Rattle.kf_eval.proofs.memo.places_within.Given as goal

abbrev pub invariant-loop-slot : goal.invariant-loop-slot
invariant-loop-slot l = l.count * span (shape_sizes l.shape) (drop l.slot-index l.slots) ≡ span (shape_sizes l.shape) l.slots
