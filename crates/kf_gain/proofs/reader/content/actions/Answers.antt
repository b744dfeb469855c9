use Rattle.std.proofs.Common.{◌≡◌, ◌∙◌, sym, ap, subst, codes, List}
use Rattle.std.proofs.lemmas.Result.{err_from_is_err_and}
use Rattle.std.specs.List.{AllZip, list_all}
use Rattle.serde_json.specs.Data.{Data}
use Rattle.serde_json.specs.View.{view}
use Rattle.kf_value.specs.Views.{items_of}
use Rattle.kf_json.specs.Json.{members}
use Rattle.kf_gain.specs.Reading.{IsRead}
use Rattle.kf_json.proofs.Carrying.{Carries, carries_first, carries_more, carries_out, carries_bad}
use Rattle.kf_gain.proofs.Entries.{action_known}
use Rattle.kf_json.proofs.Viewing.{seen_at}
use Rattle.kf_gain.specs.declared.error.TableError.TheVariants as broken
use Rattle.kf_gain.proofs.reader.content.actions.Goals as goal

pub loop-value-init : goal.loop-value-init
loop-value-init c = subst (Carries _ _ _ _) (sym c.new-actions.ensures.items) (carries_first _ _ _)

pub returns-in_err-action-clause-err : goal.returns-in_err-action-clause-err
returns-in_err-action-clause-err c =
    let p = err_from_is_err_and c.from_residual.result c.from_residual.ensures.1 in
    rw p.1 (λ other.
    let told = c.in_err-action.ensures.err (subst (λ e. e ≡ broken.Mem → ⊥) p.2 other) in
    (p.2 ∙ told.0, ap (list_all (action_known (items_of c.args.target.now))) (sym (c.members-value-items.ensures ∙ ap members (seen_at (codes "actions") (view c.args.table.now) _ c.get.ensures))) ∙ carries_bad (IsRead (items_of c.args.target.now)) (action_known (items_of c.args.target.now)) view c.members-value-items.result.now c.loop-value.value-index c.loop-value.actions.items c.value-item.result c.loop-value-test.true c.value-item.is told.1 c.loop-value.invariant))

pub loop-value-preserved : goal.loop-value-preserved
loop-value-preserved c =
    carries_more (IsRead (items_of c.args.target.now)) (action_known (items_of c.args.target.now)) view c.members-value-items.result.now c.loop-value.value-index c.loop-value.actions.items c.value-item.result _ _ c.loop-value-test.true c.value-item.is c.in_ok-action.ensures.ok c.in_ok-action.ensures.known c.in_ok-push.ensures.items c.loop-value.invariant

pub returns-clause-ok : goal.returns-clause-ok
returns-clause-ok c =
    subst (λ (ds : List Data). AllZip (IsRead (items_of c.args.target.now)) ds c.loop-value.actions.items) (c.members-value-items.ensures ∙ ap members (seen_at (codes "actions") (view c.args.table.now) _ c.get.ensures)) (carries_out (IsRead (items_of c.args.target.now)) (action_known (items_of c.args.target.now)) view c.members-value-items.result.now c.loop-value.value-index c.loop-value.actions.items c.loop-value-test.false c.loop-value.invariant).0

pub returns-clause-known : goal.returns-clause-known
returns-clause-known c =
    ap (list_all (action_known (items_of c.args.target.now))) (sym (c.members-value-items.ensures ∙ ap members (seen_at (codes "actions") (view c.args.table.now) _ c.get.ensures))) ∙ (carries_out (IsRead (items_of c.args.target.now)) (action_known (items_of c.args.target.now)) view c.members-value-items.result.now c.loop-value.value-index c.loop-value.actions.items c.loop-value-test.false c.loop-value.invariant).1
