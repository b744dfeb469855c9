use Rattle.std.proofs.Common.{rules, map, drop, ◌+◌, Ok, Err, arith}
use Rattle.kf_ast.specs.declared.stmt.Stmt.{the_lemmas}
use Rattle.kf_ast.specs.Views.{stmt_tree, stmt_items}
use Rattle.kf_check.specs.Views.{known_in, flags_in}
use Rattle.kf_check.proofs.Left.{left_step, left_end, passed}
use Rattle.kf_check.proofs.StmtTurns as turn
use Rattle.kf_check.proofs.stmts.+check_stmt.Goals as goal

pub check_stmt-returns-in_err-guard-in-If : goal.check_stmt-returns-in_err-guard-in-If
check_stmt-returns-in_err-guard-in-If t c =
    turn.failing (known_in c.args.known.now) (flags_in c.args.known.now) _ c.from_residual.result c.in_err-guard-in-If.field-0.0 (passed c.from_residual.result _ c.from_residual.ensures.1)
    (turn.if_fails (known_in c.args.known.now) (flags_in c.args.known.now) c.args.stmt.now c.in-If.guard c.in-If.yes c.in-If.no c.in-If.is _ turn.kind-Bool _ c.in_err-guard-in-If.ensures)

pub check_stmt-check_stmts-requires : goal.check_stmt-check_stmts-requires
check_stmt-check_stmts-requires t c = (search (rules, the_lemmas), turn.built_as c.as_slice.result.now _ c.as_slice.ensures (turn.yes_built c.args.stmt.now c.in-If.guard c.in-If.yes c.in-If.no c.in-If.is c.requires))

pub check_stmt-returns-in_err-yes-in-If : goal.check_stmt-returns-in_err-yes-in-If
check_stmt-returns-in_err-yes-in-If t c =
    turn.failing (known_in c.args.known.now) (flags_in c.args.known.now) _ c.from_residual-in_err-yes-in-If.result c.in_err-yes-in-If.field-0.0 (passed c.from_residual-in_err-yes-in-If.result _ c.from_residual-in_err-yes-in-If.ensures.1)
    (turn.yes_fails (known_in c.args.known.now) (flags_in c.args.known.now) c.args.stmt.now c.in-If.guard c.in-If.yes c.in-If.no c.in-If.is _ turn.kind-Bool c.in_ok-guard-in-If.guard c.in_ok-guard-in-If.ensures _
    (turn.answers_as (known_in c.args.known.now) (flags_in c.args.known.now) c.as_slice.result.now (stmt_items c.in-If.yes) c.check_stmts.result (Err c.in_err-yes-in-If.field-0.0) c.as_slice.ensures c.in_err-yes-in-If.ensures.err c.check_stmts.ensures))

pub check_stmt-check_stmts-requires-in-If : goal.check_stmt-check_stmts-requires-in-If
check_stmt-check_stmts-requires-in-If t c = (search (rules, the_lemmas), turn.built_as c.as_slice-in-If.result.now _ c.as_slice-in-If.ensures (turn.no_built c.args.stmt.now c.in-If.guard c.in-If.yes c.in-If.no c.in-If.is c.requires))

pub check_stmt-returns-in_err-guard-in-While : goal.check_stmt-returns-in_err-guard-in-While
check_stmt-returns-in_err-guard-in-While t c =
    turn.failing (known_in c.args.known.now) (flags_in c.args.known.now) _ c.from_residual-in_err-guard-in-While.result c.in_err-guard-in-While.field-0.0 (passed c.from_residual-in_err-guard-in-While.result _ c.from_residual-in_err-guard-in-While.ensures.1)
    (turn.while_fails (known_in c.args.known.now) (flags_in c.args.known.now) c.args.stmt.now c.in-While.guard c.in-While.body c.in-While.is _ turn.kind-Bool _ c.in_err-guard-in-While.ensures)

pub check_stmt-check_stmts-requires-in-While : goal.check_stmt-check_stmts-requires-in-While
check_stmt-check_stmts-requires-in-While t c = (search (rules, the_lemmas), turn.built_as c.as_slice-in-While.result.now _ c.as_slice-in-While.ensures (turn.body_built c.args.stmt.now c.in-While.guard c.in-While.body c.in-While.is c.requires))

pub check_stmt-returns-in-Skip : goal.check_stmt-returns-in-Skip
check_stmt-returns-in-Skip t c = turn.skip (known_in c.args.known.now) (flags_in c.args.known.now) c.args.stmt.now c.in-Skip.is

pub check_stmt-returns-in-Assign : goal.check_stmt-returns-in-Assign
check_stmt-returns-in-Assign t c = turn.assignment_at (known_in c.args.known.now) (flags_in c.args.known.now) c.args.stmt.now c.in-Assign.name c.in-Assign.dist c.assignment.result c.in-Assign.is (c.assignment.ensures c.args.stmt.now.at)

pub check_stmt-returns-in-Observe : goal.check_stmt-returns-in-Observe
check_stmt-returns-in-Observe t c = turn.observation_at (known_in c.args.known.now) (flags_in c.args.known.now) c.args.stmt.now c.in-Observe.observed c.observation.result c.in-Observe.is (c.observation.ensures c.args.stmt.now.at)

pub check_stmt-returns-in_err-no-in-If : goal.check_stmt-returns-in_err-no-in-If
check_stmt-returns-in_err-no-in-If t c =
    turn.failing (known_in c.args.known.now) (flags_in c.args.known.now) _ c.from_residual-in_err-no-in-If.result c.in_err-no-in-If.field-0.0 (passed c.from_residual-in_err-no-in-If.result _ c.from_residual-in_err-no-in-If.ensures.1)
    (turn.no_fails (known_in c.args.known.now) (flags_in c.args.known.now) c.args.stmt.now c.in-If.guard c.in-If.yes c.in-If.no c.in-If.is _ turn.kind-Bool c.in_ok-guard-in-If.guard c.in_ok-guard-in-If.ensures c.in_ok-yes-in-If.yes
    (turn.answers_as (known_in c.args.known.now) (flags_in c.args.known.now) c.as_slice.result.now (stmt_items c.in-If.yes) c.check_stmts.result (Ok c.in_ok-yes-in-If.yes) c.as_slice.ensures c.in_ok-yes-in-If.ensures.ok.0 c.check_stmts.ensures)
    _ (turn.answers_as (known_in c.args.known.now) (flags_in c.args.known.now) c.as_slice-in-If.result.now (stmt_items c.in-If.no) c.check_stmts-in-If.result (Err c.in_err-no-in-If.field-0.0) c.as_slice-in-If.ensures c.in_err-no-in-If.ensures.err c.check_stmts-in-If.ensures))

pub check_stmt-returns-in_ok-no-in-If : goal.check_stmt-returns-in_ok-no-in-If
check_stmt-returns-in_ok-no-in-If t c =
    rw (c.in_ok-no-in-If.ensures.ok.1, c.in_ok-yes-in-If.ensures.ok.1)
    (turn.if_else (known_in c.args.known.now) (flags_in c.args.known.now) c.args.stmt.now c.in-If.guard c.in-If.yes c.in-If.no c.in-If.is _ turn.kind-Bool c.in_ok-guard-in-If.guard c.in_ok-guard-in-If.ensures c.in_ok-yes-in-If.yes
    (turn.answers_as (known_in c.args.known.now) (flags_in c.args.known.now) c.as_slice.result.now (stmt_items c.in-If.yes) c.check_stmts.result (Ok c.in_ok-yes-in-If.yes) c.as_slice.ensures c.in_ok-yes-in-If.ensures.ok.0 c.check_stmts.ensures)
    c.in_ok-no-in-If.no (turn.answers_as (known_in c.args.known.now) (flags_in c.args.known.now) c.as_slice-in-If.result.now (stmt_items c.in-If.no) c.check_stmts-in-If.result (Ok c.in_ok-no-in-If.no) c.as_slice-in-If.ensures c.in_ok-no-in-If.ensures.ok.0 c.check_stmts-in-If.ensures))

pub check_stmt-returns-in_err-body-in-While : goal.check_stmt-returns-in_err-body-in-While
check_stmt-returns-in_err-body-in-While t c =
    turn.failing (known_in c.args.known.now) (flags_in c.args.known.now) _ c.from_residual-in_err-body-in-While.result c.in_err-body-in-While.field-0.0 (passed c.from_residual-in_err-body-in-While.result _ c.from_residual-in_err-body-in-While.ensures.1)
    (turn.body_fails (known_in c.args.known.now) (flags_in c.args.known.now) c.args.stmt.now c.in-While.guard c.in-While.body c.in-While.is _ turn.kind-Bool c.in_ok-guard-in-While.guard c.in_ok-guard-in-While.ensures _
    (turn.answers_as (known_in c.args.known.now) (flags_in c.args.known.now) c.as_slice-in-While.result.now (stmt_items c.in-While.body) c.check_stmts-in-While.result (Err c.in_err-body-in-While.field-0.0) c.as_slice-in-While.ensures c.in_err-body-in-While.ensures.err c.check_stmts-in-While.ensures))

pub check_stmt-returns-in_ok-body-in-While : goal.check_stmt-returns-in_ok-body-in-While
check_stmt-returns-in_ok-body-in-While t c =
    rw (c.in_ok-body-in-While.ensures.ok.1)
    (turn.while (known_in c.args.known.now) (flags_in c.args.known.now) c.args.stmt.now c.in-While.guard c.in-While.body c.in-While.is _ turn.kind-Bool c.in_ok-guard-in-While.guard c.in_ok-guard-in-While.ensures c.in_ok-body-in-While.body
    (turn.answers_as (known_in c.args.known.now) (flags_in c.args.known.now) c.as_slice-in-While.result.now (stmt_items c.in-While.body) c.check_stmts-in-While.result (Ok c.in_ok-body-in-While.body) c.as_slice-in-While.ensures c.in_ok-body-in-While.ensures.ok.0 c.check_stmts-in-While.ensures))

pub check_stmts-check_stmt-requires : goal.check_stmts-check_stmt-requires
check_stmts-check_stmt-requires t c = (search (rules, the_lemmas), (rw (left_step stmt_tree c.args.stmts.now c.loop-stmt.stmt-index c.stmt-item.result (omega arith) c.stmt-item.is) at c.loop-stmt.invariant.built).0)

pub check_stmts-returns-in_err-check_stmt : goal.check_stmts-returns-in_err-check_stmt
check_stmts-returns-in_err-check_stmt t c =
    turn.failing_all (known_in c.args.known.now) (flags_in c.args.known.now) _ c.from_residual.result c.in_err-check_stmt.field-0.0 (passed c.from_residual.result _ c.from_residual.ensures.1)
    (turn.done_fails (known_in c.args.known.now) (flags_in c.args.known.now) (map stmt_tree c.args.stmts.now) (map stmt_tree (drop (c.loop-stmt.stmt-index + 1) c.args.stmts.now)) c.loop-stmt.checked.items (stmt_tree c.stmt-item.result)
    (rw (left_step stmt_tree c.args.stmts.now c.loop-stmt.stmt-index c.stmt-item.result (omega arith) c.stmt-item.is) at c.loop-stmt.invariant) _ c.in_err-check_stmt.ensures)

pub check_stmts-loop-stmt-preserved : goal.check_stmts-loop-stmt-preserved
check_stmts-loop-stmt-preserved t c =
    rw c.in_ok-push.ensures.items
    (turn.done_more (known_in c.args.known.now) (flags_in c.args.known.now) (map stmt_tree c.args.stmts.now) (map stmt_tree (drop (c.loop-stmt.stmt-index + 1) c.args.stmts.now)) c.loop-stmt.checked.items (stmt_tree c.stmt-item.result)
    (rw (left_step stmt_tree c.args.stmts.now c.loop-stmt.stmt-index c.stmt-item.result (omega arith) c.stmt-item.is) at c.loop-stmt.invariant) c.in_ok-check_stmt.field-0 c.in_ok-check_stmt.ensures)

pub check_stmts-returns : goal.check_stmts-returns
check_stmts-returns t c =
    rw c.new.ensures (turn.done_all (known_in c.args.known.now) (flags_in c.args.known.now) (map stmt_tree c.args.stmts.now) _ (rw (left_end stmt_tree c.args.stmts.now c.loop-stmt.stmt-index c.loop-stmt-test.false) at c.loop-stmt.invariant))
