use Rattle.std.proofs.Common.{◌+◌, sym, ap, ◌∙◌, reverse, drop, arith}
use Rattle.std.specs.Ordering.{ordering_then}
use Rattle.kf_value.specs.Views.{value_tree, value_trees}
use Rattle.kf_value.proofs.Comparing.{compared, compared-end, compared_reversed-end, reversed_step, decided, undecided, tuples_compared, sets_compared}
use Rattle.kf_value.proofs.ListLemmas.{map-reverse}
use Rattle.kf_value.proofs.Trees.{value_tree-Tuple, value_tree-Set}
use Rattle.kf_value.proofs.order.+compare.Goals as goal

pub compare-returns-in-Tuple-Tuple : goal.compare-returns-in-Tuple-Tuple
compare-returns-in-Tuple-Tuple t c =
    let xs = value_trees c.in-Tuple-Tuple.xs in
    let ys = value_trees c.in-Tuple-Tuple.ys in
    cc (value_tree-Tuple c.in-Tuple-Tuple.xs, value_tree-Tuple c.in-Tuple-Tuple.ys, tuples_compared xs ys)

pub compare-returns-in-Set-Set : goal.compare-returns-in-Set-Set
compare-returns-in-Set-Set t c =
    let xs = value_trees c.in-Set-Set.xs in
    let ys = value_trees c.in-Set-Set.ys in
    cc (
      value_tree-Set c.in-Set-Set.xs,
      value_tree-Set c.in-Set-Set.ys,
      sets_compared xs ys,
      map-reverse value_tree c.as_slice-in-Set-Set.result.now,
      map-reverse value_tree c.as_slice-in-Set-Set-2.result.now,
    )

pub compare_lists-returns : goal.compare_lists-returns
compare_lists-returns t c = c.cmp.ensures ∙ sym (compared-end c.args.xs.now c.args.ys.now c.loop-i.i (omega arith)) ∙ c.loop-i.invariant

pub compare_reversed-returns-then-ne : goal.compare_reversed-returns-then-ne
compare_reversed-returns-then-ne t c =
    let step = reversed_step c.args.xs.now c.args.ys.now c.loop-i.i c.index-xs-xs.result c.index-ys-ys.result (omega arith) (omega arith) c.index-xs-xs.is c.index-ys-ys.is in
    let rest = compared (drop (c.loop-i.i + 1) (reverse c.args.xs.now)) (drop (c.loop-i.i + 1) (reverse c.args.ys.now)) in
    decided c.compare-found.result rest (sym c.ne.ensures ∙ c.if-ne.true)
    ∙ (ap (λ o. ordering_then o rest) c.compare-found.ensures ∙ (sym step ∙ c.loop-i.invariant))

pub compare_reversed-loop-i-preserved : goal.compare_reversed-loop-i-preserved
compare_reversed-loop-i-preserved t c =
    let step = reversed_step c.args.xs.now c.args.ys.now c.loop-i.i c.index-xs-xs.result c.index-ys-ys.result (omega arith) (omega arith) c.index-xs-xs.is c.index-ys-ys.is in
    let rest = compared (drop (c.loop-i.i + 1) (reverse c.args.xs.now)) (drop (c.loop-i.i + 1) (reverse c.args.ys.now)) in
    sym (undecided c.compare-found.result rest (sym c.ne.ensures ∙ c.if-ne.false))
    ∙ (ap (λ o. ordering_then o rest) c.compare-found.ensures ∙ (sym step ∙ c.loop-i.invariant))

pub compare_reversed-returns : goal.compare_reversed-returns
compare_reversed-returns t c = c.cmp.ensures ∙ sym (compared_reversed-end c.args.xs.now c.args.ys.now c.loop-i.i (omega arith)) ∙ c.loop-i.invariant
