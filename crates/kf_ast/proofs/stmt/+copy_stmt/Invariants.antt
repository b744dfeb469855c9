use Rattle.std.proofs.Common.{◌≡◌, map, take}
use Rattle.kf_ast.specs.Views.{stmt_tree}
use Rattle.kf_ast.proofs.stmt.+copy_stmt.Given as goal

abbrev pub invariant-StmtList::copy-loop-stmt : goal.invariant-StmtList::copy-loop-stmt
invariant-StmtList::copy-loop-stmt l = map stmt_tree l.items.items ≡ map stmt_tree (take l.stmt-index l.stmt-items)
