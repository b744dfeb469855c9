use Rattle.std.proofs.Common.{◌<◌, ◌^◌, ◌∷◌, [], map, take, drop, sym, ap, subst, ◌∙◌, rules}
use Rattle.std.specs.List.Sorted.{IsPermutation}
use Rattle.std.specs.Ordering.{is_lt}
use Rattle.std.proofs.lemmas.List.{drop_all, drop-drop}
use Rattle.std.proofs.lemmas.List.Sorted.{answers_always, ranks_by}
use Rattle.kf_value.proofs.Orders.{order_total}
use Rattle.kf_run.specs.Spreading.{IsFront, Rise, leak_order}
use Rattle.kf_run.specs.Ways.{leaked}
use Rattle.kf_run.specs.declared.ways.Leak.{Leak}
use Rattle.kf_run.proofs.Rows.{GoesOn, after_front, all_rows, entry_of, first_fits, first_positive, front_full, front_splits, goes_more, goes_start, ways_below, ways_positive, rest_is, rise, rise_drop, same_positive, some_total, sorted_same, value_of}
use Rattle.kf_run.proofs.column_spread.add_sorted.Goals as goal

pub loop-at-init : goal.loop-at-init
loop-at-init c =
    let sorted = c.as_slice-sorted.result.now in
    let moved = subst (IsPermutation c.args.leaks.items) (sym c.as_slice-sorted.ensures.value) c.sort_unstable_by.ensures.permutation in
    goes_start (map leaked sorted) c.args.list.now.items
    (same_positive (map leaked c.args.leaks.items) (map leaked sorted) (sorted_same c.args.leaks.items sorted moved) (ways_positive c.args.leaks.items c.requires.positive))

pub front_of-count-requires-clause-sorted : goal.front_of-count-requires-clause-sorted
front_of-count-requires-clause-sorted c =
    let sorted = c.as_slice-sorted.result.now in
    let up = c.sort_unstable_by.ensures.sorted (λ (x : Leak) (y : Leak). is_lt (leak_order x y)) (ranks_by order_total value_of) (answers_always _ _ _ (λ f a r g called. search rules)) in
    subst Rise (sym (rest_is c.loop-at.at sorted)) (rise_drop c.loop-at.at sorted (subst Rise (sym c.as_slice-sorted.ensures.value) (rise c.sort_unstable_by.new.self.items up)))

pub gathered-column-requires-clause-some : goal.gathered-column-requires-clause-some
gathered-column-requires-clause-some c =
    let sorted = c.as_slice-sorted.result.now in
    let at = c.loop-at.at in
    let count = c.front_of-count.result in
    let es = c.in_ok-entries.entries.items in
    let is = c.in_ok-entries.ensures ∙ ap (λ l. map entry_of (take count l)) (rest_is at sorted) in
    let front = subst (λ l. IsFront l count) (rest_is at sorted) c.front_of-count.ensures.front in
    some_total es (front_full sorted at count front es is c.front_of-count.ensures.some c.loop-at-test.true)
    (first_positive (map leaked sorted) (map leaked (drop at sorted)) (map leaked (drop count (drop at sorted))) c.args.list.now.items c.loop-at.list.items c.loop-at.invariant (front.value ∷ []) es
    (front_splits sorted at count front es is))

pub gathered-column-requires-clause-positive : goal.gathered-column-requires-clause-positive
gathered-column-requires-clause-positive c =
    let sorted = c.as_slice-sorted.result.now in
    let at = c.loop-at.at in
    let count = c.front_of-count.result in
    let es = c.in_ok-entries.entries.items in
    let is = c.in_ok-entries.ensures ∙ ap (λ l. map entry_of (take count l)) (rest_is at sorted) in
    let front = subst (λ l. IsFront l count) (rest_is at sorted) c.front_of-count.ensures.front in
    first_positive (map leaked sorted) (map leaked (drop at sorted)) (map leaked (drop count (drop at sorted))) c.args.list.now.items c.loop-at.list.items c.loop-at.invariant (front.value ∷ []) es
    (front_splits sorted at count front es is)

pub gathered-column-requires-clause-fits : goal.gathered-column-requires-clause-fits
gathered-column-requires-clause-fits c =
    let sorted = c.as_slice-sorted.result.now in
    let at = c.loop-at.at in
    let count = c.front_of-count.result in
    let es = c.in_ok-entries.entries.items in
    let is = c.in_ok-entries.ensures ∙ ap (λ l. map entry_of (take count l)) (rest_is at sorted) in
    let front = subst (λ l. IsFront l count) (rest_is at sorted) c.front_of-count.ensures.front in
    let moved = subst (IsPermutation c.args.leaks.items) (sym c.as_slice-sorted.ensures.value) c.sort_unstable_by.ensures.permutation in
    first_fits (map leaked sorted) (map leaked (drop at sorted)) (map leaked (drop count (drop at sorted))) c.args.list.now.items c.loop-at.list.items c.loop-at.invariant (front.value ∷ []) es
    (front_splits sorted at count front es is) (2 ^ 128)
    (subst (λ n. n < 2 ^ 128) (sym (sorted_same c.args.leaks.items sorted moved (λ w. w.weight))) c.requires.fits)

pub loop-at-preserved : goal.loop-at-preserved
loop-at-preserved c =
    let sorted = c.as_slice-sorted.result.now in
    let at = c.loop-at.at in
    let count = c.front_of-count.result in
    let es = c.in_ok-entries.entries.items in
    let is = c.in_ok-entries.ensures ∙ ap (λ l. map entry_of (take count l)) (rest_is at sorted) in
    let front = subst (λ l. IsFront l count) (rest_is at sorted) c.front_of-count.ensures.front in
    subst (λ l. GoesOn (map leaked sorted) (map leaked l) c.args.list.now.items c.push.new.self.items) (drop-drop count at sorted)
    (goes_more (map leaked sorted) (map leaked (drop at sorted)) (map leaked (drop count (drop at sorted))) c.args.list.now.items c.loop-at.list.items c.loop-at.invariant (front.value ∷ []) es
    (front_splits sorted at count front es is) c.gathered-column.result c.push.new.self.items (after_front front.value (drop count (drop at sorted)) front.later)
    c.gathered-column.ensures.weights c.gathered-column.ensures.total c.is_column.ensures c.gathered-column.ensures.below c.in_ok-push.ensures.items)

pub returns : goal.returns
returns c = λ from size column shared low.
    let sorted = c.as_slice-sorted.result.now in
    let moved = subst (IsPermutation c.args.leaks.items) (sym c.as_slice-sorted.ensures.value) c.sort_unstable_by.ensures.permutation in
    let on = subst (λ l. GoesOn (map leaked sorted) (map leaked l) c.args.list.now.items c.loop-at.list.items) (drop_all c.loop-at.at sorted c.loop-at-test.false) c.loop-at.invariant in
    all_rows from size column (map leaked c.args.leaks.items) (map leaked sorted) c.args.list.now.items c.loop-at.list.items (sorted_same c.args.leaks.items sorted moved) on shared
    (ways_below size c.args.leaks.items low)
