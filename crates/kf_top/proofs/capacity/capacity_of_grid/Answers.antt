use Rattle.std.proofs.Common.{refl}
use Rattle.kf_capacity.specs.Grids.{capacity_of}
use Rattle.kf_capacity.specs.Views.{grid_tree}
use Rattle.kf_top.proofs.Capacities.{narrow_is, not_past, wide_capacity}
use Rattle.kf_top.proofs.capacity.capacity_of_grid.Goals as goal

pub returns-in-Ok-clause-answer : goal.returns-in-Ok-clause-answer
returns-in-Ok-clause-answer c =
    let grid = c.args.grid.now in
    let few = not_past (capacity_of (grid_tree grid)) (λ wide. let never = c.in-Ok.ensures.wide.1 wide in absurd (cc)) in
    (narrow_is (grid_tree grid) grid.grid.narrow few, c.in-Ok.ensures.is)

pub returns-in-Err-clause-answer : goal.returns-in-Err-clause-answer
returns-in-Err-clause-answer c = let grid = c.args.grid.now in wide_capacity (grid_tree grid) grid.grid.narrow (c.in-Err.ensures.wide.0 refl)
