use Rattle.kf_ast.specs.Stmts.{stmt_at, Assign}
use Rattle.kf_ast.specs.Views.{name_tree, dist_tree}
use Rattle.kf_check.specs.Views.{known_in, flags_in}
use Rattle.kf_check.proofs.Left.{passed}
use Rattle.kf_check.proofs.StmtTurns as turn
use Rattle.kf_check.proofs.stmts.assignment.Goals as goal

pub returns-in_default : goal.returns-in_default
returns-in_default c at other = turn.unknown (known_in c.args.known.now) (flags_in c.args.known.now) at c.args.name.now c.args.value.now c.as_str.result.now c.as_str.ensures c.in_default.ensures

pub returns-in_err-dist : goal.returns-in_err-dist
returns-in_err-dist c at =
    turn.failing (known_in c.args.known.now) (flags_in c.args.known.now) (stmt_at at (Assign (name_tree c.args.name.now) (dist_tree c.args.value.now))) c.from_residual.result c.in_err-dist.field-0.0 (passed c.from_residual.result _ c.from_residual.ensures.1)
    (turn.assign_fails (known_in c.args.known.now) (flags_in c.args.known.now) at c.args.name.now c.args.value.now c.as_str.result.now c.as_str.ensures c.in-Some.slot _ c.in-Some.ensures _ c.in_err-dist.ensures)

pub returns : goal.returns
returns c at =
    turn.assign (known_in c.args.known.now) (flags_in c.args.known.now) at c.args.name.now c.args.value.now c.as_str.result.now c.as_str.ensures c.in-Some.slot _ c.in-Some.ensures c.in_ok-dist.dist c.is_visible-shown.result c.in_ok-dist.ensures c.is_visible-shown.ensures
