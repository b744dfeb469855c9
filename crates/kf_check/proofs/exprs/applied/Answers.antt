use Rattle.std.proofs.Common.{ap, ◌∙◌}
use Rattle.kf_value.specs.Views.{kind_tree}
use Rattle.kf_ast.specs.Exprs.{expr_at, Apply}
use Rattle.kf_core.specs.Exs as ex
use Rattle.kf_check.proofs.ExprNodes.{ex_tree-Apply}
use Rattle.kf_check.proofs.ExprRules.{fails, apply_clashes, apply_judged, takes_slice}
use Rattle.kf_check.proofs.exprs.applied.Goals as goal

pub result_kind-requires : goal.result_kind-requires
result_kind-requires c = takes_slice c.args.args.kinds c.as_slice.result.now c.as_slice.ensures c.args.row c.requires

pub returns-in_err-kind : goal.returns-in_err-kind
returns-in_err-kind c known xs judged becomes =
    fails known (expr_at c.args.at (Apply c.args.row xs)) c.from_residual.result c.in_err-kind.field-0.0 c.from_residual.ensures.1
    (λ told. apply_clashes known c.args.at xs c.args.args.kinds c.as_slice.result.now c.as_slice.ensures judged c.args.row c.in_err-kind.field-0.0 (c.in_err-kind.ensures.err told))

pub returns : goal.returns
returns c known xs judged becomes = (
  apply_judged known c.args.at xs c.args.args.kinds c.as_slice.result.now c.as_slice.ensures judged c.args.row (kind_tree c.in_ok-kind.kind) c.in_ok-kind.ensures.ok,
  ex_tree-Apply c.args.row c.args.args.exs ∙ ap (ex.Apply c.args.row) becomes,
)
