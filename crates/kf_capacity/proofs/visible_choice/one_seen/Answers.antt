use Rattle.std.proofs.Common.{◌≡◌, ◌*◌, ◌-◌, ◌/◌, ◌≤◌, ◌++◌, map, arith, subst, ap, ◌∙◌}
use Rattle.kf_frac.specs.Fractions.{limit}
use Rattle.kf_capacity.specs.Compositions.{times}
use Rattle.kf_capacity.specs.Views.{listed_tree}
use Rattle.kf_capacity.proofs.Fitting.{times_fit, either_grid}
use Rattle.kf_capacity.proofs.visible_choice.one_seen.Goals as goal

pub push_times-requires : goal.push_times-requires
push_times-requires c =
    let g = listed_tree c.args.g.now in
    let narrow : c.in-Some.common * c.args.den ≤ limit = subst (λ n. c.in-Some.common * n ≤ limit) c.from.ensures c.in-Some-product.ensures.0 in
    rw (c.as_slice.ensures, c.from-2.ensures)
    (times_fit g c.args.g.now.grid.stochastic c.in-Some.common c.args.num c.args.den c.in-Some.ensures.least.left (omega arith) narrow)

pub push_times-requires-2 : goal.push_times-requires-2
push_times-requires-2 c =
    let h = listed_tree c.args.h.now in
    let narrow : c.in-Some.common * c.args.den ≤ limit = subst (λ n. c.in-Some.common * n ≤ limit) c.from.ensures c.in-Some-product.ensures.0 in
    rw (c.as_slice-2.ensures, c.from-3.ensures)
    (times_fit h c.args.h.now.grid.stochastic c.in-Some.common (c.args.den - c.args.num) c.args.den c.in-Some.ensures.least.right (omega arith) narrow)

pub invariant_of-result : goal.invariant_of-result
invariant_of-result c =
    let g = listed_tree c.args.g.now in
    let h = listed_tree c.args.h.now in
    let over : c.in-Some-product.over ≡ c.in-Some.common * c.args.den = c.in-Some-product.ensures.1 ∙ ap (λ n. c.in-Some.common * n) c.from.ensures in
    let narrow : c.in-Some-product.over ≤ limit = omega (arith, c.in-Some-product.ensures.0, c.in-Some-product.ensures.1) in
    let first : c.push_times.new.made.items ≡ map (times (c.in-Some.common / g.over * c.args.num)) g.columns =
    rw (c.new-columns.ensures.items, c.as_slice.ensures, c.from-2.ensures) at c.in_ok-push_times.ensures in
    let second : c.push_times-2.new.made.items ≡ c.push_times.new.made.items ++ map (times (c.in-Some.common / h.over * (c.args.den - c.args.num))) h.columns =
    rw (c.as_slice-2.ensures, c.from-3.ensures) at c.in_ok-push_times-2.ensures in
    let made = c.new.ensures ∙ second ∙ ap (λ columns. columns ++ map (times (c.in-Some.common / h.over * (c.args.den - c.args.num))) h.columns) first in
    record {
      grid = either_grid c.args.num c.args.den g h c.in-Some.common c.in-Some-product.over c.new.result c.grid_laws.ensures.choice
          c.requires.part c.requires.rows c.args.g.now.grid c.args.h.now.grid c.in-Some.ensures.exact.1 over narrow made;
    }
