use Rattle.std.proofs.Common.{arith}
use Rattle.kf_capacity.specs.Views.{listed_tree}
use Rattle.kf_capacity.proofs.Fitting.{behind_grid}
use Rattle.kf_capacity.proofs.series.one_behind.Goals as goal

pub invariant_of-result : goal.invariant_of-result
invariant_of-result c =
    let g = listed_tree c.args.g.now in
    let h = listed_tree c.args.h.now in
    record {
      grid = behind_grid g h c.args.places.now c.in-Some.over c.in_ok-columns.columns c.grid_laws.ensures.cascade c.args.g.now.grid c.args.h.now.grid
          c.requires.many c.requires.within c.in-Some.ensures.1 (omega (arith, c.in-Some.ensures)) c.in_ok-columns.ensures;
    }
