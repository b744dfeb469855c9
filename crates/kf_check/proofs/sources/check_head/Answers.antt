use Rattle.std.proofs.Common.{map, refl, ap}
use Rattle.kf_ast.specs.Views.{decl_tree, item_tree, decl_items, target_items}
use Rattle.kf_check.specs.Variables.{variables_in}
use Rattle.kf_check.proofs.Left.{passed}
use Rattle.kf_check.proofs.Programs as whole
use Rattle.kf_check.proofs.SourceTurns as turn
use Rattle.kf_check.proofs.sources.check_head.Goals as goal

pub returns-then-is_empty-clause-broken : goal.returns-then-is_empty-clause-broken
returns-then-is_empty-clause-broken c not_memory = turn.none_declared (decl_items c.args.src.now.decls) _ _ c.is_empty.result (rw c.as_slice-decls.ensures at c.is_empty.ensures) c.if-is_empty.true

pub returns-in_err-declared-clause-broken : goal.returns-in_err-declared-clause-broken
returns-in_err-declared-clause-broken c =
    let some = turn.some_declared (decl_items c.args.src.now.decls) c.is_empty.result (rw c.as_slice-decls.ensures at c.is_empty.ensures) c.if-is_empty.false in
    rw (passed c.from_residual.result c.in_err-declared.field-0.0 c.from_residual.ensures.1)
    (λ not_memory. whole.broken_decls _ _ (map decl_tree (decl_items c.args.src.now.decls)) some c.in_err-declared.field-0.0 ((rw c.as_slice-decls.ensures at c.in_err-declared.ensures.answer) not_memory))

pub check_target-targeted-requires-clause-some : goal.check_target-targeted-requires-clause-some
check_target-targeted-requires-clause-some c =
    let some = turn.some_declared (decl_items c.args.src.now.decls) c.is_empty.result (rw c.as_slice-decls.ensures at c.is_empty.ensures) c.if-is_empty.false in
    whole.some_variables (variables_in c.in_ok-declared.declared) (map decl_tree (decl_items c.args.src.now.decls)) (rw c.as_slice-decls.ensures at c.in_ok-declared.ensures.answer).0 some

pub returns-in_err-targeted-clause-broken : goal.returns-in_err-targeted-clause-broken
returns-in_err-targeted-clause-broken c =
    let some = turn.some_declared (decl_items c.args.src.now.decls) c.is_empty.result (rw c.as_slice-decls.ensures at c.is_empty.ensures) c.if-is_empty.false in
    rw (passed c.from_residual-in_err-targeted.result c.in_err-targeted.field-0.0 c.from_residual-in_err-targeted.ensures.1)
    (
    λ not_memory. whole.broken_target (map item_tree (target_items c.args.src.now.target)) _ (map decl_tree (decl_items c.args.src.now.decls)) some (variables_in c.in_ok-declared.declared) (rw c.as_slice-decls.ensures at c.in_ok-declared.ensures.answer).0 c.in_err-targeted.field-0.0
    ((rw (c.as_slice.ensures, c.in_err-targeted.ensures.err) at c.check_target-targeted.ensures) not_memory)
    )

pub shape_of-shape-requires-clause-some : goal.shape_of-shape-requires-clause-some
shape_of-shape-requires-clause-some c =
    let some = turn.some_declared (decl_items c.args.src.now.decls) c.is_empty.result (rw c.as_slice-decls.ensures at c.is_empty.ensures) c.if-is_empty.false in
    rw (c.deref.ensures.value, c.in_ok-targeted.ensures.ok.1) (turn.some_code c.in_ok-declared.declared.variables.items (map decl_tree (decl_items c.args.src.now.decls)) (rw c.as_slice-decls.ensures at c.in_ok-declared.ensures.answer).0 some)

pub shape_of-shape-requires-clause-within : goal.shape_of-shape-requires-clause-within
shape_of-shape-requires-clause-within c =
    let fits = turn.fits_variables c.in_ok-declared.declared.variables.items (map decl_tree (decl_items c.args.src.now.decls)) c.requires.0 (rw c.as_slice-decls.ensures at c.in_ok-declared.ensures.answer).0 (rw c.in_ok-targeted.ensures.ok.0 at c.check_target-targeted.ensures) in
    rw (c.deref.ensures.value, c.as_slice-2.ensures, c.in_ok-targeted.ensures.ok.1) fits.within

pub shape_of-shape-requires-clause-few : goal.shape_of-shape-requires-clause-few
shape_of-shape-requires-clause-few c =
    let fits = turn.fits_variables c.in_ok-declared.declared.variables.items (map decl_tree (decl_items c.args.src.now.decls)) c.requires.0 (rw c.as_slice-decls.ensures at c.in_ok-declared.ensures.answer).0 (rw c.in_ok-targeted.ensures.ok.0 at c.check_target-targeted.ensures) in
    rw (c.deref.ensures.value, c.as_slice-2.ensures, c.in_ok-targeted.ensures.ok.1) fits.few

pub shape_of-shape-requires-clause-narrow : goal.shape_of-shape-requires-clause-narrow
shape_of-shape-requires-clause-narrow c =
    let fits = turn.fits_variables c.in_ok-declared.declared.variables.items (map decl_tree (decl_items c.args.src.now.decls)) c.requires.0 (rw c.as_slice-decls.ensures at c.in_ok-declared.ensures.answer).0 (rw c.in_ok-targeted.ensures.ok.0 at c.check_target-targeted.ensures) in
    rw (c.deref.ensures.value, c.as_slice-2.ensures, c.in_ok-targeted.ensures.ok.1) fits.narrow

pub returns-in_err-shape : goal.returns-in_err-shape
returns-in_err-shape c =
    rw (passed c.from_residual-in_err-shape.result _ c.from_residual-in_err-shape.ensures.1, rw c.in_err-shape.ensures.err at c.shape_of-shape.ensures.memory)
    (record { some = tt; declared = tt; known = tt; targeted = tt; shape = tt; broken = λ not_memory. absurd (not_memory refl) })

pub returns-clause-some : goal.returns-clause-some
returns-clause-some c = turn.some_declared (decl_items c.args.src.now.decls) c.is_empty.result (rw c.as_slice-decls.ensures at c.is_empty.ensures) c.if-is_empty.false

pub returns-clause-declared : goal.returns-clause-declared
returns-clause-declared c = rw (ap (λ h. h.0) c.in_ok-shape.ensures.ok.1, c.in_ok-targeted.ensures.ok.1) (rw c.as_slice-decls.ensures at c.in_ok-declared.ensures.answer)

pub returns-clause-targeted : goal.returns-clause-targeted
returns-clause-targeted c =
    rw (ap (λ h. h.0) c.in_ok-shape.ensures.ok.1, c.in_ok-targeted.ensures.ok.1, ap (λ h. h.1) c.in_ok-shape.ensures.ok.1) (rw (c.as_slice.ensures, c.in_ok-targeted.ensures.ok.0) at c.check_target-targeted.ensures)

pub returns-clause-shape : goal.returns-clause-shape
returns-clause-shape c =
    rw (ap (λ h. h.0) c.in_ok-shape.ensures.ok.1, c.in_ok-targeted.ensures.ok.1, ap (λ h. h.1) c.in_ok-shape.ensures.ok.1)
    (rw (c.deref.ensures.value, c.as_slice-2.ensures, c.in_ok-targeted.ensures.ok.1, c.in_ok-shape.ensures.ok.0) at c.shape_of-shape.ensures.shape)

pub returns-clause-known : goal.returns-clause-known
returns-clause-known c = rw (ap (λ h. h.0) c.in_ok-shape.ensures.ok.1, c.in_ok-targeted.ensures.ok.1) c.in_ok-declared.ensures.known
