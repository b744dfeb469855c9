use Rattle.kf_ast.specs.Stmts.{stmt_at, Observe}
use Rattle.kf_ast.specs.Views.{dist_tree}
use Rattle.kf_check.specs.Views.{known_in, flags_in}
use Rattle.kf_check.proofs.Left.{passed}
use Rattle.kf_check.proofs.StmtTurns as turn
use Rattle.kf_check.proofs.stmts.observation.Goals as goal

pub returns-in_err-typed : goal.returns-in_err-typed
returns-in_err-typed c at =
    turn.failing (known_in c.args.known.now) (flags_in c.args.known.now) (stmt_at at (Observe (dist_tree c.args.observed.now))) c.from_residual.result c.in_err-typed.field-0.0 (passed c.from_residual.result _ c.from_residual.ensures.1)
    (turn.observe_fails (known_in c.args.known.now) (flags_in c.args.known.now) at c.args.observed.now _ c.in_err-typed.ensures)

pub returns : goal.returns
returns c at =
    rw c.into_dx.ensures
    (turn.observe (known_in c.args.known.now) (flags_in c.args.known.now) at c.args.observed.now c.in_ok-typed.typed.dx _ c.in_ok-typed.ensures)
