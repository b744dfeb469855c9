use Rattle.std.proofs.Common.{rules, ◌∙◌, sym, ap, refl, subst, codes, Some, List, ℕ}
use Rattle.std.specs.List.{AllZip, list_all}
use Rattle.std.proofs.lemmas.List.Folds.{list_all-map}
use Rattle.serde_json.specs.Data.{Data}
use Rattle.serde_json.specs.View.{view}
use Rattle.kf_value.specs.Numbers.{IsNumberOf}
use Rattle.kf_value.specs.Views.{items_of}
use Rattle.kf_json.specs.Json.{members, at_place, text_of}
use Rattle.kf_gain.specs.Tables.{gains_at, is_value_text}
use Rattle.kf_gain.specs.Reading.{IsEntry}
use Rattle.kf_json.proofs.Carrying.{Carries, carries_first, carries_more, carries_out, carries_bad}
use Rattle.kf_gain.proofs.TargetTexts.{gain_known, text_known, text_unknown}
use Rattle.kf_json.proofs.Viewing.{seen_at, place_at}
use Rattle.kf_gain.proofs.reader.content.entries.Goals as goal

pub loop-gain-init : goal.loop-gain-init
loop-gain-init c = subst (Carries _ _ _ _) (sym c.new-entries.ensures.items) (carries_first _ _ _)

pub returns-in_default-clause-err : goal.returns-in_default-clause-err
returns-in_default-clause-err c = λ other.
    let text = c.text.ensures ∙ ap text_of (place_at 0 (view c.gain-item.result) _ c.get-in-loop-gain.ensures) in
    let number = subst (IsNumberOf (items_of c.args.target.now) c.text.result.now) c.in_default.is c.in_ok-value.ensures in
    let unknown = ap (is_value_text (items_of c.args.target.now)) (sym text) ∙ text_unknown (items_of c.args.target.now) c.text.result.now number in
    let gains = c.members-gain-items.ensures ∙ ap members (seen_at (codes "gains") (view c.args.action.now) _ c.get.ensures) in (
      refl,
      list_all-map (is_value_text (items_of c.args.target.now)) (λ g. text_of (at_place 0 g)) (members (gains_at (view c.args.action.now)))
          ∙ ap (list_all (gain_known (items_of c.args.target.now))) (sym gains)
          ∙ carries_bad _ (gain_known (items_of c.args.target.now)) view _ _ _ c.gain-item.result c.loop-gain-test.true c.gain-item.is unknown c.loop-gain.invariant,
    )

pub loop-gain-preserved : goal.loop-gain-preserved
loop-gain-preserved c =
    let text = c.text.ensures ∙ ap text_of (place_at 0 (view c.gain-item.result) _ c.get-in-loop-gain.ensures) in
    let number = subst (IsNumberOf (items_of c.args.target.now) c.text.result.now) c.in-Some.is c.in_ok-value.ensures in
    let known = ap (is_value_text (items_of c.args.target.now)) (sym text) ∙ text_known (items_of c.args.target.now) c.text.result.now c.in-Some.value number in
    carries_more (IsEntry (items_of c.args.target.now)) (gain_known (items_of c.args.target.now)) view _ _ _ c.gain-item.result _ _ c.loop-gain-test.true c.gain-item.is
    (record {
      value = subst (λ (n : ℕ). IsNumberOf (items_of c.args.target.now) (text_of (at_place 0 (view c.gain-item.result))) (Some n)) (sym c.entry.ensures.value)
          (subst (λ (t : List ℕ). IsNumberOf (items_of c.args.target.now) t (Some c.in-Some.value)) text number);
      gain = c.entry.ensures.gain;
    })
    known c.in_ok-push.ensures.items c.loop-gain.invariant

pub returns-clause-ok : goal.returns-clause-ok
returns-clause-ok c =
    let gains = c.members-gain-items.ensures ∙ ap members (seen_at (codes "gains") (view c.args.action.now) _ c.get.ensures) in
    subst (λ (ds : List Data). AllZip (IsEntry (items_of c.args.target.now)) ds c.loop-gain.entries.items) gains (carries_out (IsEntry (items_of c.args.target.now)) (gain_known (items_of c.args.target.now)) view c.members-gain-items.result.now c.loop-gain.gain-index c.loop-gain.entries.items (search rules) c.loop-gain.invariant).0

pub returns-clause-known : goal.returns-clause-known
returns-clause-known c =
    let gains = c.members-gain-items.ensures ∙ ap members (seen_at (codes "gains") (view c.args.action.now) _ c.get.ensures) in
    list_all-map (is_value_text (items_of c.args.target.now)) (λ g. text_of (at_place 0 g)) (members (gains_at (view c.args.action.now)))
    ∙ ap (list_all (gain_known (items_of c.args.target.now))) (sym gains)
    ∙ (carries_out (IsEntry (items_of c.args.target.now)) (gain_known (items_of c.args.target.now)) view c.members-gain-items.result.now c.loop-gain.gain-index c.loop-gain.entries.items (search rules) c.loop-gain.invariant).1
