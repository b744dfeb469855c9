use Rattle.std.proofs.Common.{map, drop}
use Rattle.kf_ast.specs.Views.{stmt_tree}
use Rattle.kf_core.specs.Views.{st_tree}
use Rattle.kf_check.specs.Views.{known_in, flags_in}
use Rattle.kf_check.proofs.StmtTurns.{DoneBefore}
use Rattle.kf_check.proofs.stmts.+check_stmt.Given as goal

abbrev pub invariant-check_stmts-loop-stmt : goal.invariant-check_stmts-loop-stmt
invariant-check_stmts-loop-stmt l = DoneBefore (known_in l.known) (flags_in l.known) (map stmt_tree l.stmts) (map stmt_tree (drop l.stmt-index l.stmts)) (map st_tree l.checked.items)
