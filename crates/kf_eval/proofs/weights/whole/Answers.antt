use Rattle.std.proofs.Common.{Ok, w64, sym, ap, ◌∙◌}
use Rattle.std.proofs.lemmas.Int.{to_z-of_z}
use Rattle.std.proofs.lemmas.Result.{err_from_is_err_and}
use Rattle.kf_value.specs.Kinds.{WholeKind}
use Rattle.kf_value.specs.Shapes.{shape_types}
use Rattle.kf_value.specs.Values.{Whole}
use Rattle.kf_value.specs.Views.{value_tree}
use Rattle.kf_core.specs.Runs.{store_at}
use Rattle.kf_core.proofs.Stores.{store_is}
use Rattle.kf_eval.proofs.Weighing.{whole_is}
use Rattle.kf_eval.proofs.weights.whole.Goals as goal

pub returns-in_err-eval-in-None : goal.returns-in_err-eval-in-None
returns-in_err-eval-in-None c =
    let s = store_at (shape_types c.args.shape.now) c.args.store in
    let p = err_from_is_err_and c.from_residual.result c.from_residual.ensures.1 in
    rw (p.1, p.2) (c.in_err-eval-in-None.ensures.value s (store_is (shape_types c.args.shape.now) c.args.store c.requires.store))

pub returns-in_ok-eval-in-None : goal.returns-in_ok-eval-in-None
returns-in_ok-eval-in-None c =
    let s = store_at (shape_types c.args.shape.now) c.args.store in
    let known = c.in_ok-eval-in-None.ensures.value s (store_is (shape_types c.args.shape.now) c.args.store c.requires.store) in
    let is = whole_is (value_tree c.in_ok-eval-in-None.field-0) (c.in_ok-eval-in-None.ensures.kind WholeKind c.requires.kinded).0 in
    let number = to_z-of_z w64 c.number_in.result (record { sfits = c.number_in.type_inv }) ∙ c.number_in.ensures in
    known ∙ ap (λ v. Ok v) (is ∙ ap Whole (sym number))
