use Rattle.std.proofs.Common.{map, drop}
use Rattle.kf_value.specs.Shapes.{shape_size, shape_types}
use Rattle.kf_eval.specs.Choices.{weighted_tree}
use Rattle.kf_traces.specs.Traced.{with_moves}
use Rattle.kf_traces.proofs.Moving.{MovesOn}
use Rattle.kf_traces.proofs.assigns.add_moves.Given as goal

abbrev pub invariant-loop-choice : goal.invariant-loop-choice
invariant-loop-choice l =
    let ts = shape_types l.shape in
    MovesOn ts l.slot l.store l.share (shape_size l.shape) (map weighted_tree (drop l.choice-index l.choices))
    (with_moves ts l.slot l.store l.initial.reached l.share (map weighted_tree l.choices)) l.reached
