use Rattle.std.proofs.Common.{map}
use Rattle.kf_ast.specs.Views.{decl_tree, item_tree, decl_items, target_items, source_tree, stmt_tree, stmt_items}
use Rattle.kf_ast.specs.Stmts.{stmts}
use Rattle.kf_core.specs.Views.{st_tree, st_items}
use Rattle.kf_check.specs.Views.{known_in, flags_in}
use Rattle.kf_check.specs.Variables.{variables_in}
use Rattle.kf_check.proofs.Left.{passed}
use Rattle.kf_check.proofs.LawsPrograms.{checked_if_typed}
use Rattle.kf_check.proofs.Programs as whole
use Rattle.kf_check.proofs.SourceTurns as turn
use Rattle.kf_check.proofs.sources.check.Goals as goal

pub returns-in_err-head-clause-broken : goal.returns-in_err-head-clause-broken
returns-in_err-head-clause-broken c = rw (passed c.from_residual.result c.in_err-head.field-0.0 c.from_residual.ensures.1) c.in_err-head.ensures.broken

pub returns-in_err-body-clause-broken : goal.returns-in_err-body-clause-broken
returns-in_err-body-clause-broken c =
    let head = c.in_ok-head.head in
    let has = c.in_ok-head.ensures in
    rw (passed c.from_residual-in_err-body.result c.in_err-body.field-0.0 c.from_residual-in_err-body.ensures.1)
    (
    λ not_memory.
    whole.broken_body (map item_tree (target_items c.args.src.now.target)) (map stmt_tree (stmt_items c.args.src.now.body)) (map decl_tree (decl_items c.args.src.now.decls)) has.some (variables_in head.declared) has.declared.0 _ c.in_err-body.field-0.0 has.targeted.1
    (turn.stmts_broken (variables_in head.declared) (known_in head.declared.names) (stmts (map stmt_tree (stmt_items c.args.src.now.body))) c.in_err-body.field-0.0 has.known ((rw (c.as_slice.ensures, c.in_err-body.ensures.err) at c.check_stmts-body.ensures) not_memory))
    )

pub returns-clause-typed : goal.returns-clause-typed
returns-clause-typed c =
    let head = c.in_ok-head.head in
    let has = c.in_ok-head.ensures in
    let vs = variables_in head.declared in
    let ds = map decl_tree (decl_items c.args.src.now.decls) in
    let items = map item_tree (target_items c.args.src.now.target) in
    let xs = map stmt_tree (stmt_items c.args.src.now.body) in
    let body = turn.stmts_declared vs (known_in head.declared.names) ds (flags_in head.declared.names) xs (map st_tree (st_items c.in_ok-body.body)) has.known has.declared.2 (rw (c.as_slice.ensures, c.in_ok-body.ensures.ok.0) at c.check_stmts-body.ensures) in
    let all = turn.all_types vs items head.targeted.copies _ has.shape.0 has.shape.1 has.shape.2 has.targeted.0 has.targeted.1 has.targeted.2 in
    rw c.in_ok-body.ensures.ok.1
    (whole.typed items xs ds has.some vs has.declared.0 _ all body.0 (rw (c.new.ensures, c.in_ok-body.ensures.ok.1) has.declared.1) has.targeted.3 body.1)

pub returns-clause-checked : goal.returns-clause-checked
returns-clause-checked c = checked_if_typed (source_tree c.args.src.now) _ c.requires (returns-clause-typed c)
