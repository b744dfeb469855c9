use Rattle.std.proofs.Common.{◌≡◌, ◌∙◌, sym, ap, refl, subst, codes, true, List}
use Rattle.std.specs.Prelude.{IfOk}
use Rattle.std.specs.List.{AllZip}
use Rattle.serde_json.specs.Data.{Data}
use Rattle.serde_json.specs.View.{view}
use Rattle.kf_json.specs.Json.{members, text_of}
use Rattle.kf_json.specs.Rules.{are_distinct}
use Rattle.kf_gain.specs.Tables.{name_at}
use Rattle.kf_json.proofs.Carrying.{Carries, carries_first, carries_more, carries_out, zip_map}
use Rattle.kf_gain.proofs.Entries.{text_shown}
use Rattle.kf_json.proofs.Viewing.{seen_at}
use Rattle.kf_gain.proofs.reader.content.has_own_names.Goals as goal

pub loop-action-init : goal.loop-action-init
loop-action-init c = subst (Carries _ _ _ _) (sym c.new-names.ensures.items) (carries_first _ _ _)

pub loop-action-preserved : goal.loop-action-preserved
loop-action-preserved c =
    carries_more (text_shown (λ a. text_of (name_at a))) (λ d. true) view c.members-action-items.result.now c.loop-action.action-index c.loop-action.names.items c.action-item.result _ _ c.loop-action-test.true c.action-item.is (c.text.ensures ∙ ap text_of (seen_at (codes "name") (view c.action-item.result) _ c.get-in-loop-action.ensures)) refl c.in_ok-push.ensures.items c.loop-action.invariant

pub returns : goal.returns
returns c =
    let shown = subst (λ (ds : List Data). AllZip (text_shown (λ a. text_of (name_at a))) ds c.loop-action.names.items) (c.members-action-items.ensures ∙ ap members (seen_at (codes "actions") (view c.args.table.now) _ c.get.ensures)) (carries_out (text_shown (λ a. text_of (name_at a))) (λ d. true) view c.members-action-items.result.now c.loop-action.action-index c.loop-action.names.items c.loop-action-test.false c.loop-action.invariant).0 in
    subst (λ ts. IfOk c.are_distinct.result (λ b. b ≡ are_distinct ts)) (zip_map (λ a. text_of (name_at a)) (λ t. t.now) _ _ shown) c.are_distinct.ensures
