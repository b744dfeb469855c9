use Rattle.std.proofs.Common.{◌+◌, map, drop, arith}
use Rattle.kf_ast.specs.Views.{item_tree}
use Rattle.kf_check.proofs.Left.{left_step, left_end}
use Rattle.kf_check.proofs.Standing.{stands_here, stands_later, none_stands}
use Rattle.kf_check.proofs.items.stands.Goals as goal

pub returns-then-same_item : goal.returns-then-same_item
returns-then-same_item c =
    stands_here c.args.before.now c.loop-other.other-index c.other-item.result c.args.item.now.initial c.args.item.now.name.text (omega arith) c.other-item.is c.if-same_item.ensures

pub loop-other-preserved : goal.loop-other-preserved
loop-other-preserved c =
    let before = rw (left_step item_tree c.args.before.now c.loop-other.other-index c.other-item.result (omega arith) c.other-item.is) at c.loop-other.invariant in
    λ all. stands_later c.other-item.result (map item_tree (drop (c.loop-other.other-index + 1) c.args.before.now)) c.args.item.now.initial c.args.item.now.name.text c.if-same_item.ensures (before all)

pub returns : goal.returns
returns c =
    let before = rw (left_end item_tree c.args.before.now c.loop-other.other-index (omega arith)) at c.loop-other.invariant in
    λ all. none_stands c.args.item.now.initial c.args.item.now.name.text (before all)
