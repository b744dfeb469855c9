use Rattle.std.proofs.lemmas.Result.{err_from_is_err_and}
use Rattle.kf_capacity.specs.Grids.{channel_grid}
use Rattle.kf_capacity.specs.Views.{channel_tree, grid_tree}
use Rattle.kf_top.proofs.Capacities.{all_narrow, both_too_wide, first_too_wide, second_too_wide}
use Rattle.kf_top.proofs.capacity.algebra.Goals as goal

pub returns-in_err-first_capacity-clause-answer : goal.returns-in_err-first_capacity-clause-answer
returns-in_err-first_capacity-clause-answer c =
    let p = err_from_is_err_and c.from_residual.result c.from_residual.ensures.1 in
    let g = channel_grid (channel_tree c.args.first.now) in
    let h = channel_grid (channel_tree c.args.second.now) in
    rw (p.1, p.2) (first_too_wide g h (grid_tree c.args.both.now) c.in_err-first_capacity.field-0.0 c.in_err-first_capacity.ensures.answer)

pub returns-in_err-second_capacity-clause-answer : goal.returns-in_err-second_capacity-clause-answer
returns-in_err-second_capacity-clause-answer c =
    let p = err_from_is_err_and c.from_residual-in_err-second_capacity.result c.from_residual-in_err-second_capacity.ensures.1 in
    let g = channel_grid (channel_tree c.args.first.now) in
    let h = channel_grid (channel_tree c.args.second.now) in
    rw (p.1, p.2) (second_too_wide g h (grid_tree c.args.both.now) c.in_ok-first_capacity.ensures.answer.0 c.in_err-second_capacity.field-0.0
    c.in_err-second_capacity.ensures.answer)

pub returns-in_err-capacity-clause-answer : goal.returns-in_err-capacity-clause-answer
returns-in_err-capacity-clause-answer c =
    let p = err_from_is_err_and c.from_residual-in_err-capacity.result c.from_residual-in_err-capacity.ensures.1 in
    let g = channel_grid (channel_tree c.args.first.now) in
    let h = channel_grid (channel_tree c.args.second.now) in
    rw (p.1, p.2) (both_too_wide g h (grid_tree c.args.both.now) c.in_ok-first_capacity.ensures.answer.0 c.in_ok-second_capacity.ensures.answer.0
    c.in_err-capacity.field-0.0 c.in_err-capacity.ensures.answer)

pub returns-clause-answer : goal.returns-clause-answer
returns-clause-answer c =
    let g = channel_grid (channel_tree c.args.first.now) in
    let h = channel_grid (channel_tree c.args.second.now) in
    let first = c.in_ok-first_capacity.ensures.answer in
    let second = c.in_ok-second_capacity.ensures.answer in
    let last = c.in_ok-capacity.ensures.answer in
    all_narrow g h (grid_tree c.args.both.now) first.0 second.0 last.0 c.in_ok-bytes.bytes.items (c.in_ok-bytes.ensures.numbers g h first.1 second.1 last.1)
