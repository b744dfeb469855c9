use Rattle.std.proofs.Common.{ap, ◌∙◌}
use Rattle.kf_value.specs.Views.{kind_tree}
use Rattle.kf_ast.specs.Exprs.{expr_at, SetOf}
use Rattle.kf_core.specs.Exs as ex
use Rattle.kf_check.proofs.Nodes.{kind_tree-Set}
use Rattle.kf_check.proofs.ExprNodes.{ex_tree-SetOf}
use Rattle.kf_check.proofs.ExprRules.{fails, set_clashes, set_judged, some_slice}
use Rattle.kf_check.proofs.exprs.set_of.Goals as goal

pub common_kind-requires : goal.common_kind-requires
common_kind-requires c = some_slice c.args.members.kinds c.as_slice.result.now c.as_slice.ensures c.requires

pub returns-in_err-kind : goal.returns-in_err-kind
returns-in_err-kind c known xs judged becomes =
    fails known (expr_at c.args.at (SetOf xs)) c.from_residual.result c.in_err-kind.field-0.0 c.from_residual.ensures.1
    (λ told. set_clashes known c.args.at xs c.args.members.kinds c.as_slice.result.now c.as_slice.ensures judged c.in_err-kind.field-0.0 (c.in_err-kind.ensures.err told))

pub returns : goal.returns
returns c known xs judged becomes = (
  rw (kind_tree-Set c.in_ok-kind-2.kind, c.in_ok-kind-2.ensures.ok)
      (set_judged known c.args.at xs c.args.members.kinds c.as_slice.result.now c.as_slice.ensures judged (kind_tree c.in_ok-kind.kind) c.in_ok-kind.ensures.ok),
  ex_tree-SetOf c.args.members.exs ∙ ap ex.SetOf becomes,
)
