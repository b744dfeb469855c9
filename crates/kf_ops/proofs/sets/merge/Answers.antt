use Rattle.std.proofs.Common.{map}
use Rattle.kf_value.specs.Views.{value_tree}
use Rattle.kf_ops.proofs.Merging.{merged_on}
use Rattle.kf_ops.proofs.sets.merge.Goals as goal

pub loop-next-preserved : goal.loop-next-preserved
loop-next-preserved c =
    let so_far = c.loop-next.invariant in
    let step = merged_on c.args.kept (map value_tree c.loop-next.merged.items) c.in-Some.ensures so_far.first so_far.second c.keeps.ensures c.in_ok-push_kept.ensures so_far.whole in
    record { first = step.0; second = step.1.0; whole = step.1.1 }
