use Rattle.std.proofs.Common.{◌≡◌, Ok}
use Rattle.std.proofs.lemmas.Result.{err_from_is_err_and}
use Rattle.kf_value.specs.Shapes.{shape_types}
use Rattle.kf_core.specs.Runs.{store_at}
use Rattle.kf_core.specs.Choices.{choices}
use Rattle.kf_core.specs.Views.{dx_shape, dx_tree}
use Rattle.kf_eval.specs.Choices.{IsChoiceFaultOf}
use Rattle.kf_eval.specs.Kinds.{shape_kinds}
use Rattle.kf_eval.proofs.Checking.{at_store, store_kinds}
use Rattle.kf_eval.proofs.Placing.{trees}
use Rattle.kf_eval.proofs.Weighing.{are_kinded}
use Rattle.kf_eval.proofs.outcomes.choices_in.Goals as goal

pub weights_of-requires-clause-kinded : goal.weights_of-requires-clause-kinded
weights_of-requires-clause-kinded c = c.requires.kinded

pub total_of-total-requires : goal.total_of-total-requires
total_of-total-requires c = rw c.deref.ensures.value c.in_ok-items.ensures.1

pub returns-in_err-items-clause-choice : goal.returns-in_err-items-clause-choice
returns-in_err-items-clause-choice c = λ s is.
    let p = err_from_is_err_and c.from_residual.result c.from_residual.ensures.1 in
    let fault = at_store c.args.shape.now c.args.store s is (λ t. IsChoiceFaultOf (choices t (dx_shape c.args.d.now.node)) c.in_err-items.field-0.0) c.in_err-items.ensures in
    rw (p.1, p.2) fault

pub returns-clause-choice : goal.returns-clause-choice
returns-clause-choice c = λ s is.
    let known = at_store c.args.shape.now c.args.store s is (λ t. choices t (dx_shape c.args.d.now.node) ≡ Ok (trees c.in_ok-items.items.items)) c.in_ok-items.ensures.0 in
    rw c.new.ensures (known, rw c.deref.ensures.value at c.total_of-total.ensures)

pub returns-clause-kind : goal.returns-clause-kind
returns-clause-kind c = λ k kinded.
    let ks = shape_kinds c.args.shape.now in
    let s = store_at (shape_types c.args.shape.now) c.args.store in
    let are = store_kinds c.evaluation_laws.ensures.stores c.args.shape.now c.args.store c.requires.store in
    rw (c.new.ensures) (are_kinded c.choice_laws.ensures.kinds ks s are (dx_tree c.args.d.now) k (trees c.in_ok-items.items.items) kinded c.in_ok-items.ensures.0).1

pub returns-clause-some : goal.returns-clause-some
returns-clause-some c =
    let ks = shape_kinds c.args.shape.now in
    let s = store_at (shape_types c.args.shape.now) c.args.store in
    let are = store_kinds c.evaluation_laws.ensures.stores c.args.shape.now c.args.store c.requires.store in
    rw (c.new.ensures)
    (are_kinded c.choice_laws.ensures.kinds ks s are (dx_tree c.args.d.now) c.requires.kinded.0 (trees c.in_ok-items.items.items) c.requires.kinded.1 c.in_ok-items.ensures.0).0
