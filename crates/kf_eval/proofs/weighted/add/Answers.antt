use Rattle.std.proofs.Common.{◌<◌, ◌∷◌, [], ◌∙◌, ap, sym, rules, refl, arith, length}
use Rattle.std.proofs.lemmas.Fn.{always_returns_same}
use Rattle.std.proofs.lemmas.List.{map-append}
use Rattle.kf_value.specs.Values.{order}
use Rattle.kf_value.specs.Views.{value_tree}
use Rattle.kf_eval.specs.Choices.{weighted_tree}
use Rattle.kf_eval.proofs.Placing.{found_at, put_at, trees, weight_at}
use Rattle.kf_eval.proofs.weighted.add.Goals as goal

pub overflow_add-index_mut : goal.overflow_add-index_mut
overflow_add-index_mut c =
    let inside : c.in-Ok.place < length c.args.items.now.items = rw (← c.deref-2.ensures.value) c.in-Ok.ensures.bound in
    let small = weight_at c.args.items.now.items c.in-Ok.place c.index_mut.result.now inside c.index_mut.ensures.value in
    omega (arith, small, c.requires.within)

pub returns-in-Ok : goal.returns-in-Ok
returns-in-Ok c =
    let found = c.in-Ok.ensures.position (λ w. order (value_tree w.value) (value_tree c.args.item.value)) (always_returns_same _ _ _ (λ a r g called. search rules)) in
    found_at (weighted_tree c.args.item) c.deref-2.result.now c.args.items.now.items c.in-Ok.place c.index_mut.result.now c.deref-2.ensures.value c.requires.ascending c.in-Ok.ensures.bound
    found c.index_mut.ensures.value

pub returns-in_ok-insert-in-Err : goal.returns-in_ok-insert-in-Err
returns-in_ok-insert-in-Err c =
    let found = c.in-Err.ensures.position (λ w. order (value_tree w.value) (value_tree c.args.item.value)) (always_returns_same _ _ _ (λ a r g called. search rules)) in
    put_at (weighted_tree c.args.item) c.deref-2.result.now c.args.items.now.items c.insert.new.self.items c.in-Err.place c.args.item c.deref-2.ensures.value c.requires.ascending
    c.in-Err.ensures.bound found refl c.in_ok-insert-in-Err.ensures.items

pub returns-then-ends_before : goal.returns-then-ends_before
returns-then-ends_before c =
    let w = weighted_tree c.args.item in
    let last = rw c.deref.ensures.value at c.ends_before.ensures c.if-ends_before.true w refl in
    ap trees c.in_ok-push.ensures.items ∙ (map-append weighted_tree c.args.items.now.items (c.args.item ∷ []) ∙ sym last)
