use Rattle.std.proofs.Common.{◌∷◌, [], ◌≡◌, Ok, FitsSigned, to_z, of_z, w64, unsigned_abs, rules, sym, ap, ◌∙◌, subst}
use Rattle.std.proofs.lemmas.Int.{to_z-of_z}
use Rattle.std.proofs.lemmas.Result.{err_from_is_err_and}
use Rattle.kf_value.specs.Views.{value_tree}
use Rattle.kf_value.specs.Values.{whole}
use Rattle.kf_value.specs.Shapes.{shape_types}
use Rattle.kf_core.specs.Runs.{store_at}
use Rattle.kf_core.specs.Choices.{Chosen, with_value, weighed}
use Rattle.kf_core.specs.Evaluation.{Evaluated, ev}
use Rattle.kf_core.specs.Views.{ex_tree}
use Rattle.kf_eval.specs.Choices.{choice_error, IsChoiceFaultOf}
use Rattle.kf_core.proofs.Stores.{store_is}
use Rattle.kf_eval.proofs.Weighing.{reads_positive, weighed_some, weighed_fault}
use Rattle.kf_eval.proofs.weights.weighed.Goals as goal

pub returns-in_err-value-clause-listed : goal.returns-in_err-value-clause-listed
returns-in_err-value-clause-listed c =
    let s = store_at (shape_types c.args.shape.now) c.args.store in
    let value = ev s (ex_tree c.args.case.now.value) in
    let weight = c.in_ok-weight.weight in
    let kept : to_z w64 (of_z w64 weight) ≡ weight = let ranged : FitsSigned w64 weight = search rules in to_z-of_z w64 weight ranged in
    let p = err_from_is_err_and c.from_residual-in_err-value.result c.from_residual-in_err-value.ensures.1 in
    let here = ap (λ (e : Evaluated). with_value e (λ w. weighed value (whole w))) c.in_ok-weight.ensures in
    rw (p.1, p.2)
    (subst (λ (r : Chosen). IsChoiceFaultOf r (choice_error c.in_err-value.field-0.0)) (sym here)
    (weighed_fault value weight c.in_err-value.field-0.0 (c.in_err-value.ensures.value s (store_is (shape_types c.args.shape.now) c.args.store c.requires.store))
    (reads_positive _ weight kept c.if-weight-lt0.false (λ e. c.if-weight-eq0.false (ap (of_z w64) e)))))

pub returns-clause-listed : goal.returns-clause-listed
returns-clause-listed c =
    let s = store_at (shape_types c.args.shape.now) c.args.store in
    let value = ev s (ex_tree c.args.case.now.value) in
    let weight = c.in_ok-weight.weight in
    let kept : to_z w64 (of_z w64 weight) ≡ weight = let ranged : FitsSigned w64 weight = search rules in to_z-of_z w64 weight ranged in
    let known = c.in_ok-value.ensures.value s (store_is (shape_types c.args.shape.now) c.args.store c.requires.store) in
    ap (λ (e : Evaluated). with_value e (λ w. weighed value (whole w))) c.in_ok-weight.ensures
    ∙ (weighed_some value (value_tree c.in_ok-value.value) weight known (reads_positive _ weight kept c.if-weight-lt0.false (λ e. c.if-weight-eq0.false (ap (of_z w64) e)))
    ∙ ap (λ n. Ok (record { value = value_tree c.in_ok-value.value; weight = n } ∷ [])) (sym (c.from.ensures ∙ (c.unsigned_abs.ensures.value ∙ ap unsigned_abs kept))))
