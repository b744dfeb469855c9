use Rattle.std.proofs.Common.{ap, ◌∙◌, map, take_all}
use Rattle.kf_ast.specs.declared.expr.ExprList.{out-roll-ExprList}
use Rattle.kf_ast.specs.Views.{expr_tree}
use Rattle.kf_ast.proofs.Copies.{copied_more}
use Rattle.kf_ast.proofs.expr.+copy_expr.Goals as goal

pub ExprList::copy-loop-expr-preserved : goal.ExprList::copy-loop-expr-preserved
ExprList::copy-loop-expr-preserved t c =
    copied_more expr_tree c.deref-expr-items.result.now c.loop-expr.items.items c.push.new.self.items c.loop-expr.expr-index c.expr-item.result
    c.in_ok-copy.field-0
    c.loop-expr-test.true c.expr-item.is c.in_ok-copy.ensures c.in_ok-push.ensures.items c.loop-expr.invariant

pub ExprList::copy-returns : goal.ExprList::copy-returns
ExprList::copy-returns t c =
    ap (λ l. map expr_tree l.items.items) (out-roll-ExprList (record { items = c.loop-expr.items })) ∙ c.loop-expr.invariant
    ∙ ap (map expr_tree) (take_all c.loop-expr.expr-index c.deref-expr-items.result.now c.loop-expr-test.false ∙ c.deref-expr-items.ensures.value)
