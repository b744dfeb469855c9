use Rattle.std.proofs.Common.{◌+◌, map, drop, Ok, Err, refl, arith}
use Rattle.kf_value.specs.Views.{kind_tree}
use Rattle.kf_ast.specs.Views.{decl_tree}
use Rattle.kf_core.specs.Views.{dx_tree}
use Rattle.kf_check.specs.Views.{known_in, flags_in}
use Rattle.kf_check.specs.Variables.{variable_of}
use Rattle.kf_check.proofs.Left.{left_step, left_end, passed}
use Rattle.kf_check.proofs.DeclTurns as turn
use Rattle.kf_check.proofs.decls.check_decls.Goals as goal

pub returns-in_err-declaration-clause-answer : goal.returns-in_err-declaration-clause-answer
returns-in_err-declaration-clause-answer c =
    let before = rw (left_step decl_tree c.args.decls.now c.loop-decl.decl-index c.decl-item.result (omega arith) c.decl-item.is) at c.loop-decl.invariant in
    rw (passed c.from_residual.result c.in_err-declaration.field-0.0 c.from_residual.ensures.1)
    (turn.declared_fails (map decl_tree c.args.decls.now) (map decl_tree (drop (c.loop-decl.decl-index + 1) c.args.decls.now)) (map variable_of c.loop-decl.declared.variables.items) (map dx_tree c.loop-decl.declared.dists.items) (known_in c.loop-decl.declared.names) (flags_in c.loop-decl.declared.names) c.loop-decl.declared.stores (decl_tree c.decl-item.result) before
    c.in_err-declaration.field-0.0 (turn.answered_same _ _ (decl_tree c.decl-item.result) (Err c.in_err-declaration.field-0.0) c.deref.ensures.value c.in_err-declaration.ensures.answer))

pub declare-requires-clause-room : goal.declare-requires-clause-room
declare-requires-clause-room c =
    turn.room (map variable_of c.loop-decl.declared.variables.items) (known_in c.loop-decl.declared.names) c.loop-decl.invariant.agree (decl_tree c.decl-item.result) (variable_of c.in_ok-declaration.declaration.variable) (turn.answered_same _ _ (decl_tree c.decl-item.result) (Ok c.in_ok-declaration.declaration) c.deref.ensures.value c.in_ok-declaration.ensures.answer).0

pub declare-requires-clause-fresh : goal.declare-requires-clause-fresh
declare-requires-clause-fresh c =
    turn.fresh (map variable_of c.loop-decl.declared.variables.items) (known_in c.loop-decl.declared.names) c.loop-decl.invariant.agree (decl_tree c.decl-item.result) (variable_of c.in_ok-declaration.declaration.variable) (turn.answered_same _ _ (decl_tree c.decl-item.result) (Ok c.in_ok-declaration.declaration) c.deref.ensures.value c.in_ok-declaration.ensures.answer).0

pub loop-decl-preserved : goal.loop-decl-preserved
loop-decl-preserved c =
    let before = rw (left_step decl_tree c.args.decls.now c.loop-decl.decl-index c.decl-item.result (omega arith) c.decl-item.is) at c.loop-decl.invariant in
    rw (c.in_ok-declare.ensures.variables, c.in_ok-declare.ensures.dists, c.in_ok-declare.ensures.stores)
    (turn.declared_more (map decl_tree c.args.decls.now) (map decl_tree (drop (c.loop-decl.decl-index + 1) c.args.decls.now)) c.loop-decl.declared.variables.items c.loop-decl.declared.dists.items (known_in c.loop-decl.declared.names) (flags_in c.loop-decl.declared.names) c.loop-decl.declared.stores (decl_tree c.decl-item.result) before
    c.in_ok-declaration.declaration.variable c.in_ok-declaration.declaration.dist (kind_tree c.in_ok-declaration.declaration.kind) _ _ c.in_ok-declaration.declaration.stores
    (turn.answered_same _ _ (decl_tree c.decl-item.result) (Ok c.in_ok-declaration.declaration) c.deref.ensures.value c.in_ok-declaration.ensures.answer) c.in_ok-declaration.ensures.kind c.in_ok-declare.ensures.known c.in_ok-declare.ensures.flags c.in_ok-declaration.ensures.counted)

pub returns-clause-answer : goal.returns-clause-answer
returns-clause-answer c =
    turn.declared_all (map decl_tree c.args.decls.now) (map variable_of c.loop-decl.declared.variables.items) (map dx_tree c.loop-decl.declared.dists.items) (known_in c.loop-decl.declared.names) (flags_in c.loop-decl.declared.names) c.loop-decl.declared.stores
    (rw (left_end decl_tree c.args.decls.now c.loop-decl.decl-index (omega arith)) at c.loop-decl.invariant)

pub loop-decl-init : goal.loop-decl-init
loop-decl-init c =
    rw (c.new.ensures.known, c.new.ensures.flags, c.new-2.ensures.items, c.new-3.ensures.items)
    (record { judged = λ r j. j; translated = λ ws j. refl; built = c.requires; agree = refl; flagged = refl; counted = refl })

pub check_decl-requires-clause-known : goal.check_decl-requires-clause-known
check_decl-requires-clause-known c = rw c.deref.ensures.value c.loop-decl.invariant.agree

pub check_decl-requires-clause-counted : goal.check_decl-requires-clause-counted
check_decl-requires-clause-counted c = rw c.deref.ensures.value c.loop-decl.invariant.counted

pub returns-in_err-declare : goal.returns-in_err-declare
returns-in_err-declare c =
    rw (passed c.from_residual-in_err-declare.result _ c.from_residual-in_err-declare.ensures.1, c.in_err-declare.ensures.memory) (record { answer = λ other. absurd (other refl); known = tt; counted = tt })

pub returns-clause-known : goal.returns-clause-known
returns-clause-known c = c.loop-decl.invariant.agree

pub returns-clause-counted : goal.returns-clause-counted
returns-clause-counted c = c.loop-decl.invariant.counted
