use Rattle.std.proofs.Common.{refl, Err, map, sym, ap, ◌∙◌, arith, rules, FitsSigned}
use Rattle.std.proofs.lemmas.Int.{to_z-of_z}
use mir.Syntax.{w64}
use Rattle.kf_value.specs.Views.{kind_trees}
use Rattle.kf_value.proofs.Trees.{value_tree-Bool, value_tree-Int}
use Rattle.kf_ast.specs.Views.{name_tree, expr_tree, expr_items}
use Rattle.kf_ast.specs.declared.expr.Expr.{the_lemmas}
use Rattle.kf_ast.specs.Exprs.{expr_at, Name, Part, exprs}
use Rattle.kf_core.specs.Views.{ex_items}
use Rattle.kf_check.specs.Kinds.{JudgesAll}
use Rattle.kf_check.specs.Views.{known_in}
use Rattle.kf_check.proofs.Judging.{passed_on}
use Rattle.kf_check.proofs.Each.{each_start, each_turn, each_end}
use Rattle.kf_check.proofs.Nodes.{kind_tree-Bool, kind_tree-Int, kind_tree-Tuple}
use Rattle.kf_check.proofs.ExprNodes.{expr_tree-Number, expr_tree-Truth, expr_tree-Name, expr_tree-Apply, expr_tree-Tuple, expr_tree-SetOf, expr_tree-Part, ex_tree-Const, ex_tree-Tuple}
use Rattle.kf_check.proofs.ExprRules.{HasItsKind, Becomes, all_judged, all_become, all_broken, fails, answered, applied, apply_takes, apply_broken, tuple_broken, tuple_judged, tuple_becomes, in_set, set_some, set_broken, part_broken, built_at}
use Rattle.kf_check.proofs.exprs.+expr.Goals as goal

pub expr-returns-in_err-args-in-Apply : goal.expr-returns-in_err-args-in-Apply
expr-returns-in_err-args-in-Apply t c =
    fails (known_in c.args.known.now) (expr_tree c.args.x.now) c.from_residual.result c.in_err-args-in-Apply.field-0.0 c.from_residual.ensures.1
    (λ told. apply_broken (known_in c.args.known.now) (expr_tree c.args.x.now) c.args.x.now.at c.in-Apply.row c.as_slice.result.now (expr_items c.in-Apply.args) (expr_tree-Apply c.args.x.now c.in-Apply.row c.in-Apply.args c.in-Apply.is) c.as_slice.ensures c.in_err-args-in-Apply.field-0.0 (c.in_err-args-in-Apply.ensures.err told))

pub expr-applied-requires : goal.expr-applied-requires
expr-applied-requires t c = apply_takes (known_in c.args.known.now) (expr_tree c.args.x.now) c.args.x.now.at c.in-Apply.row c.as_slice.result.now (expr_items c.in-Apply.args) (expr_tree-Apply c.args.x.now c.in-Apply.row c.in-Apply.args c.in-Apply.is) c.as_slice.ensures (kind_trees c.in_ok-args-in-Apply.args.kinds) c.requires c.in_ok-args-in-Apply.ensures.judged

pub expr-returns-in_err-parts-in-Tuple : goal.expr-returns-in_err-parts-in-Tuple
expr-returns-in_err-parts-in-Tuple t c =
    fails (known_in c.args.known.now) (expr_tree c.args.x.now) c.from_residual-in_err-parts-in-Tuple.result c.in_err-parts-in-Tuple.field-0.0 c.from_residual-in_err-parts-in-Tuple.ensures.1
    (λ told. tuple_broken (known_in c.args.known.now) (expr_tree c.args.x.now) c.args.x.now.at c.as_slice-in-Tuple.result.now (expr_items c.in-Tuple.parts) (expr_tree-Tuple c.args.x.now c.in-Tuple.parts c.in-Tuple.is) c.as_slice-in-Tuple.ensures c.in_err-parts-in-Tuple.field-0.0 (c.in_err-parts-in-Tuple.ensures.err told))

pub expr-returns-in_err-members-in-SetOf : goal.expr-returns-in_err-members-in-SetOf
expr-returns-in_err-members-in-SetOf t c =
    fails (known_in c.args.known.now) (expr_tree c.args.x.now) c.from_residual-in_err-members-in-SetOf.result c.in_err-members-in-SetOf.field-0.0 c.from_residual-in_err-members-in-SetOf.ensures.1
    (λ told. set_broken (known_in c.args.known.now) (expr_tree c.args.x.now) c.args.x.now.at c.as_slice-in-SetOf.result.now (expr_items c.in-SetOf.members) (expr_tree-SetOf c.args.x.now c.in-SetOf.members c.in-SetOf.is) c.as_slice-in-SetOf.ensures c.in_err-members-in-SetOf.field-0.0 (c.in_err-members-in-SetOf.ensures.err told))

pub expr-set_of-requires : goal.expr-set_of-requires
expr-set_of-requires t c = set_some (known_in c.args.known.now) (expr_tree c.args.x.now) c.args.x.now.at c.as_slice-in-SetOf.result.now (expr_items c.in-SetOf.members) (expr_tree-SetOf c.args.x.now c.in-SetOf.members c.in-SetOf.is) c.as_slice-in-SetOf.ensures (kind_trees c.in_ok-members-in-SetOf.members.kinds) c.requires c.in_ok-members-in-SetOf.ensures.judged

pub expr-returns-in_err-tuple-in-Part : goal.expr-returns-in_err-tuple-in-Part
expr-returns-in_err-tuple-in-Part t c =
    fails (known_in c.args.known.now) (expr_tree c.args.x.now) c.from_residual-in_err-tuple-in-Part.result c.in_err-tuple-in-Part.field-0.0 c.from_residual-in_err-tuple-in-Part.ensures.1
    (λ told. part_broken (known_in c.args.known.now) (expr_tree c.args.x.now) c.args.x.now.at c.in-Part.k (expr_tree c.deref.result.now) (expr_tree-Part c.args.x.now c.in-Part.of c.in-Part.k c.in-Part.is ∙ ap (λ z. expr_at c.args.x.now.at (Part (expr_tree z) c.in-Part.k)) (sym c.deref.ensures)) c.in_err-tuple-in-Part.field-0.0 (c.in_err-tuple-in-Part.ensures told))

pub expr-returns-in-Number : goal.expr-returns-in-Number
expr-returns-in-Number t c =
    let within : FitsSigned w64 c.from.result = search rules in (
      rw (expr_tree-Number c.args.x.now c.in-Number.number c.in-Number.is, kind_tree-Int) refl,
      rw (expr_tree-Number c.args.x.now c.in-Number.number c.in-Number.is, ex_tree-Const, value_tree-Int, to_z-of_z w64 c.from.result within, c.from.ensures) refl,
    )

pub expr-returns-in-Truth : goal.expr-returns-in-Truth
expr-returns-in-Truth t c = (
  rw (expr_tree-Truth c.args.x.now c.in-Truth.truth c.in-Truth.is, kind_tree-Bool) refl,
  rw (expr_tree-Truth c.args.x.now c.in-Truth.truth c.in-Truth.is, ex_tree-Const, value_tree-Bool) refl,
)

pub expr-returns-in-Name : goal.expr-returns-in-Name
expr-returns-in-Name t c =
    answered (known_in c.args.known.now) (expr_tree c.args.x.now) (expr_at c.args.x.now.at (Name (name_tree c.in-Name.name))) c.variable.result (expr_tree-Name c.args.x.now c.in-Name.name c.in-Name.is) (c.variable.ensures c.args.x.now.at)

pub expr-returns-in_ok-args-in-Apply : goal.expr-returns-in_ok-args-in-Apply
expr-returns-in_ok-args-in-Apply t c =
    answered (known_in c.args.known.now) (expr_tree c.args.x.now) _ c.applied.result
    (applied (known_in c.args.known.now) (expr_tree c.args.x.now) c.args.x.now.at c.in-Apply.row c.as_slice.result.now (expr_items c.in-Apply.args) (expr_tree-Apply c.args.x.now c.in-Apply.row c.in-Apply.args c.in-Apply.is) c.as_slice.ensures)
    (c.applied.ensures (known_in c.args.known.now) (exprs (map expr_tree c.as_slice.result.now)) c.in_ok-args-in-Apply.ensures.judged c.in_ok-args-in-Apply.ensures.translated)

pub expr-returns-in_ok-parts-in-Tuple : goal.expr-returns-in_ok-parts-in-Tuple
expr-returns-in_ok-parts-in-Tuple t c = (
  rw (kind_tree-Tuple c.in_ok-parts-in-Tuple.parts.kinds) (tuple_judged (known_in c.args.known.now) (expr_tree c.args.x.now) c.args.x.now.at c.as_slice-in-Tuple.result.now (expr_items c.in-Tuple.parts) (expr_tree-Tuple c.args.x.now c.in-Tuple.parts c.in-Tuple.is) c.as_slice-in-Tuple.ensures (kind_trees c.in_ok-parts-in-Tuple.parts.kinds) c.in_ok-parts-in-Tuple.ensures.judged),
  rw (ex_tree-Tuple c.in_ok-parts-in-Tuple.parts.exs) (tuple_becomes (known_in c.args.known.now) (expr_tree c.args.x.now) c.args.x.now.at c.as_slice-in-Tuple.result.now (expr_items c.in-Tuple.parts) (expr_tree-Tuple c.args.x.now c.in-Tuple.parts c.in-Tuple.is) c.as_slice-in-Tuple.ensures (ex_items c.in_ok-parts-in-Tuple.parts.exs) c.in_ok-parts-in-Tuple.ensures.translated),
)

pub expr-returns-in_ok-members-in-SetOf : goal.expr-returns-in_ok-members-in-SetOf
expr-returns-in_ok-members-in-SetOf t c =
    answered (known_in c.args.known.now) (expr_tree c.args.x.now) _ c.set_of.result
    (in_set (known_in c.args.known.now) (expr_tree c.args.x.now) c.args.x.now.at c.as_slice-in-SetOf.result.now (expr_items c.in-SetOf.members) (expr_tree-SetOf c.args.x.now c.in-SetOf.members c.in-SetOf.is) c.as_slice-in-SetOf.ensures)
    (c.set_of.ensures (known_in c.args.known.now) (exprs (map expr_tree c.as_slice-in-SetOf.result.now)) c.in_ok-members-in-SetOf.ensures.judged c.in_ok-members-in-SetOf.ensures.translated)

pub expr-returns-in_ok-tuple-in-Part : goal.expr-returns-in_ok-tuple-in-Part
expr-returns-in_ok-tuple-in-Part t c =
    answered (known_in c.args.known.now) (expr_tree c.args.x.now) _ c.part.result
    (expr_tree-Part c.args.x.now c.in-Part.of c.in-Part.k c.in-Part.is ∙ ap (λ z. expr_at c.args.x.now.at (Part (expr_tree z) c.in-Part.k)) (sym c.deref.ensures))
    (c.part.ensures (known_in c.args.known.now) (expr_tree c.deref.result.now) c.in_ok-tuple-in-Part.ensures.0 c.in_ok-tuple-in-Part.ensures.1)

pub typed_exprs-loop-x-init : goal.typed_exprs-loop-x-init
typed_exprs-loop-x-init t c =
    let no_exs = c.new-exs.ensures.items in
    let no_kinds = c.new-kinds.ensures.items in
    record { judged = rw no_kinds (each_start (HasItsKind (known_in c.args.known.now)) c.args.xs.now); translated = rw no_exs (each_start (Becomes (known_in c.args.known.now)) c.args.xs.now) }

pub typed_exprs-expr-requires : goal.typed_exprs-expr-requires
typed_exprs-expr-requires t c =
    (search (rules, the_lemmas), built_at c.args.xs.now c.loop-x.x-index c.x-item.result (omega arith) c.x-item.is c.requires)

pub typed_exprs-returns-in_err-typed-clause-err : goal.typed_exprs-returns-in_err-typed-clause-err
typed_exprs-returns-in_err-typed-clause-err t c =
    passed_on (λ e. JudgesAll (known_in c.args.known.now) (exprs (map expr_tree c.args.xs.now)) (Err e)) c.from_residual.result c.in_err-typed.field-0.0 c.from_residual.ensures.1
    (λ told. all_broken (known_in c.args.known.now) c.args.xs.now c.loop-x.kinds.items c.loop-x.x-index c.x-item.result c.in_err-typed.field-0.0 (omega arith) c.x-item.is c.loop-x.invariant.judged (c.in_err-typed.ensures told))

pub typed_exprs-loop-x-preserved : goal.typed_exprs-loop-x-preserved
typed_exprs-loop-x-preserved t c =
    let more_exs = c.in_ok-push.ensures.items in
    let more_kinds = c.in_ok-push-2.ensures.items in
    record {
      judged = rw more_kinds (each_turn (HasItsKind (known_in c.args.known.now)) c.args.xs.now c.loop-x.kinds.items c.loop-x.x-index c.x-item.result c.in_ok-typed.typed.kind (omega arith) c.x-item.is c.loop-x.invariant.judged
          c.in_ok-typed.ensures.0);
      translated = rw more_exs (each_turn (Becomes (known_in c.args.known.now)) c.args.xs.now c.loop-x.exs.items c.loop-x.x-index c.x-item.result c.in_ok-typed.typed.ex (omega arith) c.x-item.is c.loop-x.invariant.translated
          c.in_ok-typed.ensures.1);
    }

pub typed_exprs-returns-clause-judged : goal.typed_exprs-returns-clause-judged
typed_exprs-returns-clause-judged t c =
    rw (c.new-2.ensures) (all_judged (known_in c.args.known.now) (each_end (HasItsKind (known_in c.args.known.now)) c.args.xs.now c.loop-x.kinds.items c.loop-x.x-index (omega arith) c.loop-x.invariant.judged))

pub typed_exprs-returns-clause-translated : goal.typed_exprs-returns-clause-translated
typed_exprs-returns-clause-translated t c =
    rw (c.new.ensures) (all_become (known_in c.args.known.now) (each_end (Becomes (known_in c.args.known.now)) c.args.xs.now c.loop-x.exs.items c.loop-x.x-index (omega arith) c.loop-x.invariant.translated))
