use Rattle.std.proofs.Common.{◌≡◌, map, take}
use Rattle.kf_ast.specs.Views.{expr_tree}
use Rattle.kf_ast.proofs.expr.+copy_expr.Given as goal

abbrev pub invariant-ExprList::copy-loop-expr : goal.invariant-ExprList::copy-loop-expr
invariant-ExprList::copy-loop-expr l = map expr_tree l.items.items ≡ map expr_tree (take l.expr-index l.expr-items)
