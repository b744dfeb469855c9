use Rattle.std.proofs.Common.{◌≡◌, ap, sym, ◌∙◌, rules, List, subst}
use Rattle.std.proofs.lemmas.List.Sorted.{answers_always}
use Rattle.kf_column.specs.declared.entry.Entry.{Entry}
use Rattle.kf_column.specs.Columns.{weight_at, IsColumn}
use Rattle.kf_column.proofs.Gathering.{nat_equal}
use Rattle.kf_hyper.proofs.Searching.{searchable, weight_found, missed}
use Rattle.kf_hyper.proofs.column.Column.weight.Goals as goal

pub returns-in-Ok : goal.returns-in-Ok
returns-in-Ok c =
    let same = c.in-Ok.ensures.position (λ e. e.value) (answers_always _ _ _ (λ f a r g called. search rules)) in
    let column : c.as_slice-entries.result.now ≡ c.args.self.now = c.as_slice-entries.ensures ∙ c.self.view_is in
    sym (weight_found c.as_slice-entries.result.now c.args.x c.in-Ok.place (record { value = 0; weight = 0 }) (subst IsColumn (sym c.as_slice-entries.ensures) c.self.invariant) c.in-Ok.ensures.bound
    (nat_equal _ c.args.x (same (record { value = 0; weight = 0 }))))
    ∙ ap (λ (es : List Entry). weight_at es c.args.x) column

pub returns-in-Err : goal.returns-in-Err
returns-in-Err c =
    let column : c.as_slice-entries.result.now ≡ c.args.self.now = c.as_slice-entries.ensures ∙ c.self.view_is in
    let is : IsColumn c.as_slice-entries.result.now = subst IsColumn (sym c.as_slice-entries.ensures) c.self.invariant in
    let apart = c.in-Err.ensures.position (λ e. e.value) (answers_always _ _ _ (λ f a r g called. search rules)) (searchable c.as_slice-entries.result.now c.args.x is) in
    sym (missed c.as_slice-entries.result.now c.args.x c.in-Err.field-0 apart.0 apart.1) ∙ ap (λ (es : List Entry). weight_at es c.args.x) column
