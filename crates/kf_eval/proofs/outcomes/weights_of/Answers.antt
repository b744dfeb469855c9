use Rattle.std.proofs.Common.{sym, subst}
use Rattle.kf_value.specs.Shapes.{shape_types}
use Rattle.kf_core.specs.Runs.{store_at}
use Rattle.kf_core.specs.Choices.{choices as choices_of}
use Rattle.kf_core.specs.Views.{dx_shape}
use Rattle.kf_eval.specs.Gathering.{AnswersWeights}
use Rattle.kf_eval.proofs.outcomes.weights_of.Goals as goal

pub returns-in-Flip : goal.returns-in-Flip
returns-in-Flip c =
    let s = store_at (shape_types c.args.shape.now) c.args.store in
    subst (λ node. AnswersWeights c.flip.result (choices_of s (dx_shape node))) (sym c.in-Flip.is) (c.flip.ensures s)
