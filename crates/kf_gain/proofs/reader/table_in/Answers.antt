use Rattle.std.proofs.Common.{◌≡◌, ◌∙◌, rules, sym, ap, subst, codes, None, Some, true, unsigned_abs}
use Rattle.std.proofs.lemmas.Int.{to_z-of_z}
use mir.Syntax.{w128}
use Rattle.std.proofs.lemmas.Result.{err_from_is_err_and}
use Rattle.serde_json.specs.View.{view}
use Rattle.kf_value.specs.Views.{items_of}
use Rattle.kf_json.specs.Json.{whole_of}
use Rattle.kf_json.specs.Rules.{first_broken}
use Rattle.kf_gain.specs.declared.error.TableError.TheVariants as broken
use Rattle.kf_gain.specs.Tables.{IsTableOf, form_rules}
use Rattle.kf_gain.proofs.Judging.{table_shaped, table_told, fault_form, fault_unknown, fault_twice, fault_none}
use Rattle.kf_json.proofs.Viewing.{seen_at}
use Rattle.kf_gain.proofs.reader.table_in.Goals as goal
use Rattle.kf_gain.specs.Forms.{all_once}

pub returns-in-Some-clause-err : goal.returns-in-Some-clause-err
returns-in-Some-clause-err c = λ other.
    fault_form (items_of c.args.target.now) (view c.args.value.now) c.in-Some.fault (sym c.broken_form.ensures ∙ c.in-Some.is)

pub returns-in_err-actions-clause-err : goal.returns-in_err-actions-clause-err
returns-in_err-actions-clause-err c =
    let d = view c.args.value.now in
    let formed : first_broken (form_rules d) None ≡ None = sym c.broken_form.ensures ∙ c.in_default.is in
    let p = err_from_is_err_and c.from_residual-in_err-actions.result c.from_residual-in_err-actions.ensures.1 in
    rw p.1 (λ other.
    let found = c.in_err-actions.ensures.err (subst (λ e. e ≡ broken.Mem → ⊥) p.2 other) in
    fault_unknown (items_of c.args.target.now) d formed found.1 ∙ ap (λ e. Some e) (sym (p.2 ∙ found.0)))

pub returns-then-not-once-clause-err : goal.returns-then-not-once-clause-err
returns-then-not-once-clause-err c = λ other.
    let d = view c.args.value.now in
    let formed : first_broken (form_rules d) None ≡ None = sym c.broken_form.ensures ∙ c.in_default.is in
    fault_twice (items_of c.args.target.now) d formed c.in_ok-actions.ensures.known (sym c.in_ok-once.ensures ∙ c.if-not-once.true)

pub table-requires : goal.table-requires
table-requires c =
    let d = view c.args.value.now in
    let formed : first_broken (form_rules d) None ≡ None = sym c.broken_form.ensures ∙ c.in_default.is in
    let once : all_once d ≡ true = sym c.in_ok-once.ensures ∙ c.if-not-once.false in
    record {
      shape = table_shaped (items_of c.args.target.now) d formed _ _ c.in_ok-actions.actions.items once c.in_ok-actions.ensures.ok
          (c.unsigned_abs-over.ensures.value ∙ ap unsigned_abs (to_z-of_z w128 c.whole_or_zero.result (search rules) ∙ c.whole_or_zero.ensures ∙ ap whole_of (seen_at (codes "over") d _ c.get.ensures)))
          (to_z-of_z w128 c.whole_or_zero-rest.result (search rules) ∙ c.whole_or_zero-rest.ensures ∙ ap whole_of (seen_at (codes "rest") d _ c.get-2.ensures));
    }

pub returns-clause-fault : goal.returns-clause-fault
returns-clause-fault c =
    let d = view c.args.value.now in
    let formed : first_broken (form_rules d) None ≡ None = sym c.broken_form.ensures ∙ c.in_default.is in
    let once : all_once d ≡ true = sym c.in_ok-once.ensures ∙ c.if-not-once.false in
    fault_none (items_of c.args.target.now) d formed c.in_ok-actions.ensures.known once

pub returns-clause-is : goal.returns-clause-is
returns-clause-is c =
    let d = view c.args.value.now in
    let formed : first_broken (form_rules d) None ≡ None = sym c.broken_form.ensures ∙ c.in_default.is in
    let once : all_once d ≡ true = sym c.in_ok-once.ensures ∙ c.if-not-once.false in
    subst (IsTableOf (items_of c.args.target.now) d) (sym c.table.ensures)
    (table_told (items_of c.args.target.now) d formed _ _ c.in_ok-actions.actions.items once c.in_ok-actions.ensures.ok
    (c.unsigned_abs-over.ensures.value ∙ ap unsigned_abs (to_z-of_z w128 c.whole_or_zero.result (search rules) ∙ c.whole_or_zero.ensures ∙ ap whole_of (seen_at (codes "over") d _ c.get.ensures)))
    (to_z-of_z w128 c.whole_or_zero-rest.result (search rules) ∙ c.whole_or_zero-rest.ensures ∙ ap whole_of (seen_at (codes "rest") d _ c.get-2.ensures)))
