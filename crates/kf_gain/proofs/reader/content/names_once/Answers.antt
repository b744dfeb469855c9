use Rattle.std.proofs.Common.{◌≡◌, ◌∙◌, sym, ap, refl, subst, codes, true, List}
use Rattle.std.specs.Prelude.{IfOk}
use Rattle.std.specs.List.{AllZip}
use Rattle.serde_json.specs.Data.{Data}
use Rattle.serde_json.specs.View.{view}
use Rattle.kf_json.specs.Json.{members, at_place, text_of}
use Rattle.kf_json.specs.Rules.{are_distinct}
use Rattle.kf_json.proofs.Carrying.{Carries, carries_first, carries_more, carries_out, zip_map}
use Rattle.kf_gain.proofs.Entries.{text_shown}
use Rattle.kf_json.proofs.Viewing.{seen_at, place_at}
use Rattle.kf_gain.proofs.reader.content.names_once.Goals as goal

pub loop-gain-init : goal.loop-gain-init
loop-gain-init c = subst (Carries _ _ _ _) (sym c.new-texts.ensures.items) (carries_first _ _ _)

pub loop-gain-preserved : goal.loop-gain-preserved
loop-gain-preserved c =
    carries_more (text_shown (λ g. text_of (at_place 0 g))) (λ d. true) view c.members-gain-items.result.now c.loop-gain.gain-index c.loop-gain.texts.items c.gain-item.result _ _ c.loop-gain-test.true c.gain-item.is (c.text.ensures ∙ ap text_of (place_at 0 (view c.gain-item.result) _ c.get-in-loop-gain.ensures)) refl c.in_ok-push.ensures.items c.loop-gain.invariant

pub returns : goal.returns
returns c =
    let shown = subst (λ (ds : List Data). AllZip (text_shown (λ g. text_of (at_place 0 g))) ds c.loop-gain.texts.items) (c.members-gain-items.ensures ∙ ap members (seen_at (codes "gains") (view c.args.action.now) _ c.get.ensures)) (carries_out (text_shown (λ g. text_of (at_place 0 g))) (λ d. true) view c.members-gain-items.result.now c.loop-gain.gain-index c.loop-gain.texts.items c.loop-gain-test.false c.loop-gain.invariant).0 in
    subst (λ ts. IfOk c.are_distinct.result (λ b. b ≡ are_distinct ts)) (zip_map (λ g. text_of (at_place 0 g)) (λ t. t.now) _ _ shown) c.are_distinct.ensures
