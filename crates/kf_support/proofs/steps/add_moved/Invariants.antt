use Rattle.std.proofs.Common.{map, drop, ◌++◌, Ok}
use Rattle.kf_value.specs.Shapes.{shape_types, shape_sizes}
use Rattle.kf_value.specs.Types.{product}
use Rattle.kf_core.specs.Runs.{replaced}
use Rattle.kf_core.specs.Results.{then_ok}
use Rattle.kf_core.specs.Each.{each_moved}
use Rattle.kf_eval.specs.Choices.{weighted_tree}
use Rattle.kf_support.specs.Answers.{ways_to}
use Rattle.kf_support.proofs.Stepping.{MovesOn}
use Rattle.kf_support.proofs.steps.add_moved.Given as goal

abbrev pub invariant-loop-choice : goal.invariant-loop-choice
invariant-loop-choice l =
    MovesOn l.at l.scale (product (shape_sizes l.shape)) (map (λ w. replaced (shape_types l.shape) l.slot w.value l.store) (map weighted_tree (drop l.choice-index l.choices)))
    (then_ok (each_moved l.at (map (λ w. replaced (shape_types l.shape) l.slot w.value l.store) (map weighted_tree l.choices))) (λ ms. Ok (l.initial.next.items ++ ways_to ms l.scale)))
    l.next.items
