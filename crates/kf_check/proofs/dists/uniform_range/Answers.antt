use Rattle.std.proofs.Common.{Ok, Err, ap, ◌∙◌, subst}
use Rattle.kf_value.specs.Kinds.{KindTree, WholeKind}
use Rattle.kf_value.specs.Views.{kind_tree}
use Rattle.kf_ast.specs.Views.{expr_tree}
use Rattle.kf_ast.specs.Dists.{dist_at, UniformRange}
use Rattle.kf_core.specs.Views.{ex_tree, dx_tree}
use Rattle.kf_core.specs.Dxs.{dx_at}
use Rattle.kf_core.specs.Dxs as dx
use Rattle.kf_check.specs.Kinds.{JudgesPair}
use Rattle.kf_check.specs.Translation.{ex_of}
use Rattle.kf_check.specs.Picks.{names_in}
use Rattle.kf_check.specs.Views.{known_in}
use Rattle.kf_check.proofs.Nodes.{kind_tree-Int}
use Rattle.kf_check.proofs.DistRules.{fails_dist, made}
use Rattle.kf_check.proofs.dists.uniform_range.Goals as goal

pub returns-in_err-bounds : goal.returns-in_err-bounds
returns-in_err-bounds c =
    let P : KindTree → Type 0 = λ k. JudgesPair (known_in c.args.known.now) k (expr_tree c.args.low.now) (expr_tree c.args.high.now) (Err c.in_err-bounds.field-0.0) in
    fails_dist (known_in c.args.known.now) (dist_at c.args.at (UniformRange (expr_tree c.args.low.now) (expr_tree c.args.high.now))) c.from_residual.result c.in_err-bounds.field-0.0 c.from_residual.ensures.1
    (λ told. subst P kind_tree-Int (c.in_err-bounds.ensures.err told))

pub returns : goal.returns
returns c =
    let P : KindTree → Type 0 = λ k. JudgesPair (known_in c.args.known.now) k (expr_tree c.args.low.now) (expr_tree c.args.high.now) (Ok k) in
    let bounds = c.in_ok-bounds.bounds in
    made (known_in c.args.known.now) (dist_at c.args.at (UniformRange (expr_tree c.args.low.now) (expr_tree c.args.high.now))) c.new.result WholeKind (dx_at c.args.at (dx.UniformRange (ex_tree bounds.first) (ex_tree bounds.second)))
    (ap kind_tree c.new.ensures.kind ∙ kind_tree-Int) (ap dx_tree c.new.ensures.dx)
    (subst P kind_tree-Int c.in_ok-bounds.ensures.judged)
    (ap (λ a. dx_at c.args.at (dx.UniformRange a (ex_tree bounds.second))) c.in_ok-bounds.ensures.first ∙ ap (λ b. dx_at c.args.at (dx.UniformRange (ex_of (names_in (known_in c.args.known.now)) (expr_tree c.args.low.now)) b)) c.in_ok-bounds.ensures.second)
