use Rattle.std.proofs.Common.{Ok, [], ◌∷◌, refl}
use Rattle.std.proofs.lemmas.Result.{err_from_is_err_and}
use Rattle.kf_value.specs.Shapes.{shape_types}
use Rattle.kf_core.specs.Runs.{store_at}
use Rattle.kf_core.specs.Choices.{once, with_value}
use Rattle.kf_core.specs.Evaluation.{Evaluated, ev}
use Rattle.kf_core.specs.Views.{ex_tree}
use Rattle.kf_core.proofs.Stores.{store_is}
use Rattle.kf_eval.proofs.Weighing.{fault_on, finished, sure_weights}
use Rattle.kf_eval.proofs.weights.sure.Goals as goal

pub returns-in_err-value : goal.returns-in_err-value
returns-in_err-value c =
    let s = store_at (shape_types c.args.shape.now) c.args.store in
    let p = err_from_is_err_and c.from_residual.result c.from_residual.ensures.1 in
    rw (p.1, p.2)
    (fault_on (λ (e : Evaluated). finished (with_value e (λ v. Ok (once v ∷ [])))) (λ f. refl) (ev s (ex_tree c.args.x.now)) c.in_err-value.field-0.0
    (c.in_err-value.ensures.value s (store_is (shape_types c.args.shape.now) c.args.store c.requires.store)))

pub returns : goal.returns
returns c =
    let s = store_at (shape_types c.args.shape.now) c.args.store in
    sure_weights s (ex_tree c.args.x.now) c.in_ok-value.value c.args.room.items c.push.new.self.items
    (c.in_ok-value.ensures.value s (store_is (shape_types c.args.shape.now) c.args.store c.requires.store)) c.requires.empty c.in_ok-push.ensures.items
