use Rattle.std.proofs.Common.{ℕ, List, subst}
use Rattle.std.proofs.lemmas.Option.{IfSome_then}
use Rattle.kf_value.specs.Kinds.{KindTree}
use Rattle.kf_core.specs.Exs.{ExTree}
use Rattle.kf_core.specs.Dxs.{dx_at, Sure}
use Rattle.kf_core.specs.Checked.{DistKinded, sure}
use Rattle.kf_eval.specs.Kinds.{shape_kinds, IsKinded}
use Rattle.kf_layer_tests.proofs.tests.values.observed.Goals as goal

sure_kinded : (ks : List KindTree) (at : ℕ) (x : ExTree) (k : KindTree) → DistKinded ks (dx_at at (Sure x)) k → IsKinded ks x
sure_kinded ks at x k (sure _ h) = (k, h)

pub returns : goal.returns
returns c =
    let ks = shape_kinds c.args.program.now.shape in
    let dist = c.in_ok-first_observed.ensures in
    IfSome_then c.expression_of.result c.expression_of.ensures (λ e is. sure_kinded ks _ _ dist.0 (subst (λ d. DistKinded ks d dist.0) is dist.1))
