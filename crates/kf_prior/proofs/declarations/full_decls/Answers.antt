use Rattle.std.proofs.Common.{◌++◌, ◌∷◌, ◌+◌, map, drop, sym, ap, ◌∙◌, arith}
use Rattle.kf_value.specs.Shapes.{shape_types}
use Rattle.kf_value.specs.TypeViews.{type_tree}
use Rattle.kf_value.proofs.ListLemmas.{left_step, left_end}
use Rattle.kf_ast.specs.Views.{decl_tree}
use Rattle.kf_prior.proofs.Turns.{formed_here, sized_here, size_here, decls_here, no_more_decls, pushed}
use Rattle.kf_prior.proofs.declarations.full_decls.Goals as goal
use Rattle.kf_prior.specs.Literals.{full_decls}

pub full_decl-requires-clause-formed : goal.full_decl-requires-clause-formed
full_decl-requires-clause-formed c =
    formed_here c.args.shape.now c.as_slice-types.result.now c.loop-i.i c.index-types-i.result (ap (map type_tree) c.as_slice-types.ensures ∙ c.types.ensures) (omega arith) c.index-types-i.is

pub full_decl-requires-clause-sized : goal.full_decl-requires-clause-sized
full_decl-requires-clause-sized c =
    sized_here c.args.shape.now c.as_slice-types.result.now c.loop-i.i c.index-types-i.result (ap (map type_tree) c.as_slice-types.ensures ∙ c.types.ensures) (omega arith) c.index-types-i.is

pub full_decl-requires-clause-size : goal.full_decl-requires-clause-size
full_decl-requires-clause-size c =
    c.size.ensures
    ∙ size_here c.args.shape.now c.as_slice-types.result.now c.loop-i.i c.index-types-i.result (ap (map type_tree) c.as_slice-types.ensures ∙ c.types.ensures) (omega arith) c.index-types-i.is

pub loop-i-preserved : goal.loop-i-preserved
loop-i-preserved c =
    let here = decls_here c.args.shape.now c.as_slice-types.result.now c.loop-i.i c.index-types-i.result (ap (map type_tree) c.as_slice-types.ensures ∙ c.types.ensures) (omega arith) c.index-types-i.is
    (map decl_tree (drop c.loop-i.i c.args.decls.now)) (decl_tree c.index-decls-i.result) (map decl_tree (drop (c.loop-i.i + 1) c.args.decls.now))
    (left_step decl_tree c.args.decls.now c.loop-i.i c.index-decls-i.result (omega arith) c.index-decls-i.is) in
    let rest = full_decls (drop (c.loop-i.i + 1) (shape_types c.args.shape.now)) (map decl_tree (drop (c.loop-i.i + 1) c.args.decls.now)) in
    ap (λ items. map decl_tree items ++ rest) c.in_ok-push.ensures.items
    ∙ (pushed decl_tree c.loop-i.full.items c.in_ok-full_decl.field-0 rest
    ∙ (ap (λ ds. map decl_tree c.loop-i.full.items ++ ds) (ap (λ d. d ∷ rest) c.in_ok-full_decl.ensures ∙ sym here) ∙ c.loop-i.invariant))

pub returns : goal.returns
returns c =
    rw (c.new.ensures)
    (no_more_decls (drop c.loop-i.i (shape_types c.args.shape.now)) (map decl_tree (drop c.loop-i.i c.args.decls.now)) (map decl_tree c.loop-i.full.items)
    (full_decls (shape_types c.args.shape.now) (map decl_tree c.args.decls.now)) (left_end decl_tree c.args.decls.now c.loop-i.i (omega arith)) c.loop-i.invariant)
