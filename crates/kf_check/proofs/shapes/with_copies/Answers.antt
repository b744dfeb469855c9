use Rattle.std.proofs.Common.{◌+◌, map, drop, get_or, subst}
use Rattle.std.proofs.lemmas.List.{drop_more}
use Rattle.kf_value.specs.TypeViews.{type_tree}
use Rattle.kf_check.specs.Variables.{variable_of}
use Rattle.kf_check.proofs.CopyTurns.{CopiedBefore, copied_more}
use Rattle.kf_check.proofs.shapes.with_copies.Goals as goal

pub loop-copy-preserved : goal.loop-copy-preserved
loop-copy-preserved c =
    let before = subst (λ left. CopiedBefore (map variable_of c.args.variables.now) c.args.copies.now left (map type_tree c.args.types.items) (map type_tree c.loop-copy.types.items)) (drop_more c.args.copies.now c.loop-copy.copy-index 0 c.loop-copy-test.true) c.loop-copy.invariant in
    rw c.in_ok-push.ensures.items
    (
    copied_more c.args.variables.now c.args.copies.now (drop (c.loop-copy.copy-index + 1) c.args.copies.now) (map type_tree c.args.types.items) c.loop-copy.types.items (get_or c.args.copies.now c.loop-copy.copy-index 0) before
    c.index-variables-from.result (c.requires c.loop-copy.copy-index 0 c.loop-copy-test.true) (rw c.from.ensures at c.index-variables-from.is) c.in_ok-copy.field-0 c.in_ok-copy.ensures
    )
