use Rattle.std.proofs.Common.{arith, refl}
use Rattle.kf_capacity.specs.Views.{listed_tree}
use Rattle.kf_capacity.proofs.Fitting.{products_fit, both_grid}
use Rattle.kf_capacity.proofs.pairs.both_seen.Goals as goal

pub invariant_of-result : goal.invariant_of-result
invariant_of-result c =
    let g = listed_tree c.args.g in
    let h = listed_tree c.args.h in
    record {
      grid = both_grid g h c.in-Some.over _ c.grid_laws.ensures.parallel c.requires.rows c.args.g.grid c.args.h.grid
          c.in-Some.ensures.1 (omega (arith, c.in-Some.ensures)) refl;
      counted = c.requires.few;
      fit = products_fit g h c.args.g.grid.stochastic c.args.h.grid.stochastic (omega (arith, c.in-Some.ensures));
    }
