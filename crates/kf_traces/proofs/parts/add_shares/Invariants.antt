use Rattle.std.proofs.Common.{map, drop}
use Rattle.kf_value.specs.Shapes.{shape_size, shape_types}
use Rattle.kf_eval.specs.Choices.{weighted_tree}
use Rattle.kf_support.specs.Moves.{store_behind}
use Rattle.kf_traces.specs.Traced.{with_shares}
use Rattle.kf_traces.specs.Views.{part_of}
use Rattle.kf_traces.proofs.Splits.{SharesOn}
use Rattle.kf_traces.proofs.parts.add_shares.Given as goal

abbrev pub invariant-loop-i : goal.invariant-loop-i
invariant-loop-i l =
    let go = store_behind (shape_types l.shape) l.into in
    SharesOn go l.store l.share (shape_size l.shape) (map weighted_tree (drop l.i l.choices))
    (with_shares go (map part_of l.initial.parts.items) l.store l.share (map weighted_tree l.choices)) (map part_of l.parts.items)
