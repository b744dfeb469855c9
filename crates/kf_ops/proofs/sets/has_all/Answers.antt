use Rattle.std.proofs.Common.{map, ap}
use Rattle.kf_value.specs.Views.{value_tree}
use Rattle.kf_ops.proofs.Subsets.{is_missing, is_passed, none_missing}
use Rattle.kf_ops.proofs.sets.has_all.Goals as goal

pub returns-then-eq : goal.returns-then-eq
returns-then-eq c =
    let so_far = c.loop-next.invariant in
    is_missing (map value_tree c.args.xs.now) (map value_tree c.args.ys.now) c.in-Some.ensures so_far.first so_far.second so_far.missing c.if-eq.ensures

pub loop-next-preserved : goal.loop-next-preserved
loop-next-preserved c =
    let so_far = c.loop-next.invariant in
    let step = is_passed (map value_tree c.args.xs.now) (map value_tree c.args.ys.now) c.in-Some.ensures so_far.first so_far.second so_far.missing c.if-eq.ensures in
    record { first = step.0; second = step.1.0; missing = step.1.1 }

pub returns : goal.returns
returns c =
    none_missing (map value_tree c.args.xs.now) (map value_tree c.args.ys.now) _ _ (ap (map value_tree) c.in_default.ensures.0) c.loop-next.invariant.missing
