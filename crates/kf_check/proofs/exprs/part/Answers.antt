use Rattle.std.proofs.Common.{ap, ◌∙◌}
use Rattle.kf_value.specs.Views.{kind_tree}
use Rattle.kf_ast.specs.Exprs.{expr_at, Part}
use Rattle.kf_core.specs.Exs as ex
use Rattle.kf_core.specs.Views.{ex_tree}
use Rattle.kf_check.proofs.ExprNodes.{ex_tree-Part}
use Rattle.kf_check.proofs.ExprRules.{fails, part_clashes, part_judged}
use Rattle.kf_check.proofs.exprs.part.Goals as goal

pub returns-in_err-kind : goal.returns-in_err-kind
returns-in_err-kind c known x judged becomes =
    fails known (expr_at c.args.at (Part x c.args.k)) c.from_residual.result c.in_err-kind.field-0.0 c.from_residual.ensures.1
    (part_clashes known c.args.at c.args.k x (kind_tree c.args.tuple.kind) judged c.part_kind.result c.in_err-kind.field-0.0 c.in_err-kind.ensures.err c.part_kind.ensures.err)

pub returns : goal.returns
returns c known x judged becomes = (
  part_judged known c.args.at c.args.k x (kind_tree c.args.tuple.kind) judged c.part_kind.result c.in_ok-kind.kind c.in_ok-kind.ensures.ok.0 c.part_kind.ensures.ok,
  ex_tree-Part c.in_ok-of.of c.args.k ∙ ap (λ y. ex.Part y c.args.k) (ap ex_tree c.in_ok-of.ensures.ok ∙ (ap (λ t. ex_tree t.ex) c.in_ok-kind.ensures.ok.1 ∙ becomes)),
)
