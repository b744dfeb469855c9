use Rattle.std.proofs.Common.{◌∙◌, sym, ap, refl, codes}
use Rattle.std.specs.List.{list_all}
use Rattle.serde_json.specs.View.{view}
use Rattle.kf_json.specs.Json.{members}
use Rattle.kf_json.specs.Rules.{are_distinct}
use Rattle.kf_gain.specs.Tables.{value_texts}
use Rattle.kf_json.proofs.Carrying.{tests_more, tests_bad, tests_out}
use Rattle.kf_json.proofs.Viewing.{seen_at, none_and, if_ok_both}
use Rattle.kf_gain.proofs.reader.content.is_once.Goals as goal

pub loop-action-init : goal.loop-action-init
loop-action-init c = refl

pub returns-then-not-branch : goal.returns-then-not-branch
returns-then-not-branch c =
    none_and _ _ (ap (list_all (λ a. are_distinct (value_texts a))) (sym (c.members-action-items.ensures ∙ ap members (seen_at (codes "actions") (view c.args.table.now) _ c.get.ensures)))
    ∙ tests_bad (λ a. are_distinct (value_texts a)) view c.members-action-items.result.now c.loop-action.action-index c.action-item.result c.loop-action-test.true c.action-item.is (sym c.in_ok-names_once.ensures ∙ c.if-not-branch.true) c.loop-action.invariant)

pub loop-action-preserved : goal.loop-action-preserved
loop-action-preserved c =
    tests_more (λ a. are_distinct (value_texts a)) view c.members-action-items.result.now c.loop-action.action-index c.action-item.result c.loop-action-test.true c.action-item.is (sym c.in_ok-names_once.ensures ∙ c.if-not-branch.false) c.loop-action.invariant

pub returns : goal.returns
returns c =
    let once = ap (list_all (λ a. are_distinct (value_texts a))) (sym (c.members-action-items.ensures ∙ ap members (seen_at (codes "actions") (view c.args.table.now) _ c.get.ensures))) ∙ tests_out (λ a. are_distinct (value_texts a)) view c.members-action-items.result.now c.loop-action.action-index c.loop-action-test.false c.loop-action.invariant in
    if_ok_both _ _ _ once c.has_own_names.ensures
