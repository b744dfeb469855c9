use Rattle.std.proofs.Common.{ap, ◌∙◌, map, take_all}
use Rattle.kf_ast.specs.declared.stmt.StmtList.{out-roll-StmtList}
use Rattle.kf_ast.specs.Views.{stmt_tree}
use Rattle.kf_ast.proofs.Copies.{copied_more}
use Rattle.kf_ast.proofs.stmt.+copy_stmt.Goals as goal

pub StmtList::copy-loop-stmt-preserved : goal.StmtList::copy-loop-stmt-preserved
StmtList::copy-loop-stmt-preserved t c =
    copied_more stmt_tree c.deref-stmt-items.result.now c.loop-stmt.items.items c.push.new.self.items c.loop-stmt.stmt-index c.stmt-item.result
    c.in_ok-copy.field-0
    c.loop-stmt-test.true c.stmt-item.is c.in_ok-copy.ensures c.in_ok-push.ensures.items c.loop-stmt.invariant

pub StmtList::copy-returns : goal.StmtList::copy-returns
StmtList::copy-returns t c =
    ap (λ l. map stmt_tree l.items.items) (out-roll-StmtList (record { items = c.loop-stmt.items })) ∙ c.loop-stmt.invariant
    ∙ ap (map stmt_tree) (take_all c.loop-stmt.stmt-index c.deref-stmt-items.result.now c.loop-stmt-test.false ∙ c.deref-stmt-items.ensures.value)
