use Rattle.std.proofs.Common.{rules, ◌≡◌, ◌∙◌, sym, ap, [], arith}
use Rattle.std.specs.BTreeSet.{contains}
use Rattle.std.specs.Vec.Iter.{into_iter_items}
use Rattle.std.specs.List.{list_any}
use Rattle.std.specs.BTreeMap.{is_at}
use Rattle.kf_json.proofs.Distinct.{none_left, fresh, fresh_first, fresh_step, fresh_stop, differ_texts, text_cmp, text_eq}
use Rattle.kf_json.proofs.texts.are_distinct.Goals as goal

pub loop-text-init : goal.loop-text-init
loop-text-init c =
    (λ i. fresh text_eq (λ q. list_any (is_at (text_cmp q)) (c.new-seen.ensures.empty i)) (into_iter_items c.into_iter-text-iterator.result))
    ∙ fresh_first text_eq (into_iter_items c.into_iter-text-iterator.result) ∙ differ_texts (into_iter_items c.into_iter-text-iterator.result) ∙ search rules

pub returns-then-not-branch : goal.returns-then-not-branch
returns-then-not-branch c =
    fresh_stop text_eq (contains text_cmp c.loop-text.seen) c.in-Some.text _ _ _ c.in_ok-insert.field-0 c.in-Some.ensures.steps.0 c.in_ok-insert.ensures.added c.loop-text.invariant (search rules)

pub loop-text-preserved : goal.loop-text-preserved
loop-text-preserved c =
    fresh_step text_eq (contains text_cmp c.loop-text.seen) c.in-Some.text _ _ _ c.in_ok-insert.field-0 c.in-Some.ensures.steps.0 c.in_ok-insert.ensures.added c.loop-text.invariant
    (contains text_cmp c.insert.new.self) (search rules) c.in_ok-insert.ensures.updates.0

pub returns : goal.returns
returns c =
    let none : into_iter_items c.loop-text.text-iterator ≡ [] = none_left _ (omega (arith, c.in-None.ensures.steps.0, c.loop-text.text-iterator.rest.ok)) in
    sym (ap (fresh text_eq (contains text_cmp c.loop-text.seen)) none) ∙ c.loop-text.invariant
