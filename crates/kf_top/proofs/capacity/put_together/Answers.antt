use Rattle.kf_capacity.specs.Grids.{channel_grid}
use Rattle.kf_capacity.specs.Views.{channel_tree, grid_tree}
use Rattle.kf_load.specs.Steps.{Gives}
use Rattle.kf_top.specs.Answer.{Composed}
use Rattle.kf_top.specs.Steps.{algebra_shown}
use Rattle.kf_top.specs.CapacityViews.{way_of}
use Rattle.kf_top.specs.Views.{shown}
use Rattle.kf_top.proofs.Steps.{next_answers}
use Rattle.kf_top.proofs.capacity.put_together.Goals as goal

pub returns-clause-answer : goal.returns-clause-answer
returns-clause-answer c =
    let first = channel_tree c.args.first.now in
    let second = channel_tree c.args.second.now in
    next_answers shown (Composed (way_of c.args.way) first second) (λ both. Gives (algebra_shown (channel_grid first) (channel_grid second) both)) c.algebra.result
    (grid_tree c.in_ok-both.both) c.in_ok-both.ensures.answer c.algebra.ensures.answer
