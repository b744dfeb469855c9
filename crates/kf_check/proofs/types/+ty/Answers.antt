use Rattle.std.proofs.Common.{Err, refl, min, ◌-◌, ◌^◌, map, sym, ◌∙◌, ap, arith, rules, FitsSigned}
use Rattle.std.proofs.lemmas.Int.{to_z-of_z}
use mir.Syntax.{w64}
use Rattle.kf_value.specs.Types.{count, product}
use Rattle.kf_value.specs.TypeViews.{type_tree}
use Rattle.kf_value.specs.Views.{type_trees}
use Rattle.kf_value.proofs.Trees.{type_tree-Bool, type_tree-Int, type_tree-Tuple, type_tree-Set}
use Rattle.kf_ast.specs.TypeForms.{type_at, SetOf, types}
use Rattle.kf_ast.specs.Views.{type_form, ty_items}
use Rattle.kf_check.specs.Types.{JudgesType, JudgesTypes}
use Rattle.kf_check.proofs.Nodes.{type_form-Bool, type_form-Int, type_form-Tuple, type_form-Set}
use Rattle.kf_check.proofs.Judging.{passed_on}
use Rattle.kf_check.proofs.Each.{each_start, each_turn, each_end}
use Rattle.kf_check.proofs.TypeRules.{IsType, types_judged, types_broken, shown_range, range_broken, range_large, range_judged, tuple_broken, tuple_large, tuple_judged, set_broken, set_large, set_judged, tuple_size, product_turn, shifted}
use Rattle.kf_check.proofs.types.+ty.Goals as goal

pub ty_within-returns-in_err-range_size-in-Int-clause-err : goal.ty_within-returns-in_err-range_size-in-Int-clause-err
ty_within-returns-in_err-range_size-in-Int-clause-err t c =
    let low : FitsSigned w64 c.in-Int.lo = search rules in
    let high : FitsSigned w64 c.in-Int.hi = search rules in
    passed_on (λ e. JudgesType c.args.limit (type_form c.args.x.now) (Err e)) c.from_residual.result c.in_err-range_size-in-Int.field-0.0 c.from_residual.ensures.1
    (λ told. rw (c.in_err-range_size-in-Int.ensures.err.0) (range_broken c.args.limit (type_form c.args.x.now) c.args.x.now.at _ _ (shown_range (type_form c.args.x.now) c.args.x.now.at c.in-Int.lo c.in-Int.hi _ _ (type_form-Int c.args.x.now c.in-Int.lo c.in-Int.hi c.in-Int.is) (to_z-of_z w64 c.in-Int.lo low) (to_z-of_z w64 c.in-Int.hi high)) c.in_err-range_size-in-Int.ensures.err.1))

pub ty_within-returns-in_err-size-in-Int-clause-err : goal.ty_within-returns-in_err-size-in-Int-clause-err
ty_within-returns-in_err-size-in-Int-clause-err t c =
    let low : FitsSigned w64 c.in-Int.lo = search rules in
    let high : FitsSigned w64 c.in-Int.hi = search rules in
    passed_on (λ e. JudgesType c.args.limit (type_form c.args.x.now) (Err e)) c.from_residual-in_err-size-in-Int.result c.in_err-size-in-Int.field-0.0 c.from_residual-in_err-size-in-Int.ensures.1
    (λ told. rw (c.in_err-size-in-Int.ensures.err.0) (range_large c.args.limit (type_form c.args.x.now) c.args.x.now.at _ _ (shown_range (type_form c.args.x.now) c.args.x.now.at c.in-Int.lo c.in-Int.hi _ _ (type_form-Int c.args.x.now c.in-Int.lo c.in-Int.hi c.in-Int.is) (to_z-of_z w64 c.in-Int.lo low) (to_z-of_z w64 c.in-Int.hi high)) c.in_ok-range_size-in-Int.ensures.ok.0 c.in_ok-range_size-in-Int.field-0 c.in_ok-range_size-in-Int.ensures.ok.1 c.in_err-size-in-Int.ensures.err.1))

pub ty_within-returns-in_err-parts-in-Tuple-clause-err : goal.ty_within-returns-in_err-parts-in-Tuple-clause-err
ty_within-returns-in_err-parts-in-Tuple-clause-err t c =
    passed_on (λ e. JudgesType c.args.limit (type_form c.args.x.now) (Err e)) c.from_residual-in_err-parts-in-Tuple.result c.in_err-parts-in-Tuple.field-0.0 c.from_residual-in_err-parts-in-Tuple.ensures.1
    (λ told. tuple_broken c.args.limit (type_form c.args.x.now) c.args.x.now.at c.as_slice.result.now (ty_items c.in-Tuple.parts) (type_form-Tuple c.args.x.now c.in-Tuple.parts c.in-Tuple.is) c.as_slice.ensures c.in_err-parts-in-Tuple.field-0.0 (c.in_err-parts-in-Tuple.ensures.err told))

pub ty_within-returns-in_err-size-in-Tuple-clause-err : goal.ty_within-returns-in_err-size-in-Tuple-clause-err
ty_within-returns-in_err-size-in-Tuple-clause-err t c =
    passed_on (λ e. JudgesType c.args.limit (type_form c.args.x.now) (Err e)) c.from_residual-in_err-size-in-Tuple.result c.in_err-size-in-Tuple.field-0.0 c.from_residual-in_err-size-in-Tuple.ensures.1
    (λ told. rw (c.in_err-size-in-Tuple.ensures.err.0) (tuple_large c.args.limit (type_form c.args.x.now) c.args.x.now.at c.as_slice.result.now (ty_items c.in-Tuple.parts) (type_form-Tuple c.args.x.now c.in-Tuple.parts c.in-Tuple.is) c.as_slice.ensures (type_trees c.in_ok-parts-in-Tuple.parts.types) c.in_ok-parts-in-Tuple.parts.product c.in_ok-parts-in-Tuple.ensures.judged c.in_ok-parts-in-Tuple.ensures.sized c.in_err-size-in-Tuple.ensures.err.1))

pub ty_within-returns-in_err-base-in-Set-clause-err : goal.ty_within-returns-in_err-base-in-Set-clause-err
ty_within-returns-in_err-base-in-Set-clause-err t c =
    passed_on (λ e. JudgesType c.args.limit (type_form c.args.x.now) (Err e)) c.from_residual-in_err-base-in-Set.result c.in_err-base-in-Set.field-0.0 c.from_residual-in_err-base-in-Set.ensures.1
    (λ told. set_broken c.args.limit (type_form c.args.x.now) c.args.x.now.at (type_form c.deref.result.now) (type_form-Set c.args.x.now c.in-Set.base c.in-Set.is ∙ ap (λ y. type_at c.args.x.now.at (SetOf (type_form y))) (sym c.deref.ensures)) c.in_err-base-in-Set.field-0.0 (c.in_err-base-in-Set.ensures.err told))

pub ty_within-returns-in_err-size-in-Set-clause-err : goal.ty_within-returns-in_err-size-in-Set-clause-err
ty_within-returns-in_err-size-in-Set-clause-err t c =
    passed_on (λ e. JudgesType c.args.limit (type_form c.args.x.now) (Err e)) c.from_residual-in_err-size-in-Set.result c.in_err-size-in-Set.field-0.0 c.from_residual-in_err-size-in-Set.ensures.1
    (λ told. rw (c.in_err-size-in-Set.ensures.err.0) (set_large c.args.limit (type_form c.args.x.now) c.args.x.now.at (type_form c.deref.result.now) (type_form-Set c.args.x.now c.in-Set.base c.in-Set.is ∙ ap (λ y. type_at c.args.x.now.at (SetOf (type_form y))) (sym c.deref.ensures)) (type_tree c.in_ok-base-in-Set.base.ty) _ c.in_ok-base-in-Set.ensures.judged (shifted c.in_ok-base-in-Set.base.size _ c.in_ok-base-in-Set.ensures.few c.in_ok-base-in-Set.ensures.sized) c.in_err-size-in-Set.ensures.err.1))

pub ty_within-returns-in-Bool-clause-judged : goal.ty_within-returns-in-Bool-clause-judged
ty_within-returns-in-Bool-clause-judged t c = rw (type_form-Bool c.args.x.now c.in-Bool.is, type_tree-Bool) refl

pub ty_within-returns-in_ok-size-in-Int-clause-judged : goal.ty_within-returns-in_ok-size-in-Int-clause-judged
ty_within-returns-in_ok-size-in-Int-clause-judged t c =
    let low : FitsSigned w64 c.in-Int.lo = search rules in
    let high : FitsSigned w64 c.in-Int.hi = search rules in
    rw type_tree-Int
    (range_judged c.args.limit (type_form c.args.x.now) c.args.x.now.at _ _ (shown_range (type_form c.args.x.now) c.args.x.now.at c.in-Int.lo c.in-Int.hi _ _ (type_form-Int c.args.x.now c.in-Int.lo c.in-Int.hi c.in-Int.is) (to_z-of_z w64 c.in-Int.lo low) (to_z-of_z w64 c.in-Int.hi high)) c.in_ok-range_size-in-Int.ensures.ok.0 c.in_ok-range_size-in-Int.field-0 c.in_ok-range_size-in-Int.ensures.ok.1 c.in_ok-size-in-Int.ensures.ok.1)

pub ty_within-returns-in_ok-size-in-Tuple-clause-judged : goal.ty_within-returns-in_ok-size-in-Tuple-clause-judged
ty_within-returns-in_ok-size-in-Tuple-clause-judged t c =
    rw (type_tree-Tuple c.in_ok-parts-in-Tuple.parts.types)
    (tuple_judged c.args.limit (type_form c.args.x.now) c.args.x.now.at c.as_slice.result.now (ty_items c.in-Tuple.parts) (type_form-Tuple c.args.x.now c.in-Tuple.parts c.in-Tuple.is) c.as_slice.ensures (type_trees c.in_ok-parts-in-Tuple.parts.types)
    c.in_ok-parts-in-Tuple.parts.product c.in_ok-parts-in-Tuple.ensures.judged c.in_ok-parts-in-Tuple.ensures.sized c.in_ok-size-in-Tuple.ensures.ok.1 c.requires.high)

pub ty_within-returns-in_ok-size-in-Tuple-clause-sized : goal.ty_within-returns-in_ok-size-in-Tuple-clause-sized
ty_within-returns-in_ok-size-in-Tuple-clause-sized t c =
    rw (type_tree-Tuple c.in_ok-parts-in-Tuple.parts.types)
    (c.in_ok-size-in-Tuple.ensures.ok.0
    ∙ tuple_size (type_trees c.in_ok-parts-in-Tuple.parts.types) c.in_ok-parts-in-Tuple.parts.product c.args.limit c.in_ok-parts-in-Tuple.ensures.sized c.in_ok-size-in-Tuple.ensures.ok.1 c.requires.high)

pub ty_within-returns-in_ok-new-in-Set-clause-judged : goal.ty_within-returns-in_ok-new-in-Set-clause-judged
ty_within-returns-in_ok-new-in-Set-clause-judged t c =
    rw (type_tree-Set c.in_ok-new-in-Set.field-0, c.in_ok-new-in-Set.ensures.ok)
    (set_judged c.args.limit (type_form c.args.x.now) c.args.x.now.at (type_form c.deref.result.now) (type_form-Set c.args.x.now c.in-Set.base c.in-Set.is ∙ ap (λ y. type_at c.args.x.now.at (SetOf (type_form y))) (sym c.deref.ensures)) (type_tree c.in_ok-base-in-Set.base.ty) _ c.in_ok-base-in-Set.ensures.judged (shifted c.in_ok-base-in-Set.base.size _ c.in_ok-base-in-Set.ensures.few c.in_ok-base-in-Set.ensures.sized) c.in_ok-size-in-Set.ensures.ok.1)

pub tys-returns-in_err-part-clause-err : goal.tys-returns-in_err-part-clause-err
tys-returns-in_err-part-clause-err t c =
    passed_on (λ e. JudgesTypes (types (map type_form c.args.parts.now)) (Err e)) c.from_residual.result c.in_err-part.field-0.0 c.from_residual.ensures.1
    (λ told. types_broken c.args.parts.now c.loop-part.types.items c.loop-part.part-index c.part-item.result c.in_err-part.field-0.0 (omega arith) c.part-item.is
    c.loop-part.invariant.judged (c.in_err-part.ensures.err told))

pub tys-returns-clause-judged : goal.tys-returns-clause-judged
tys-returns-clause-judged t c =
    rw (c.new.ensures) (types_judged (each_end IsType c.args.parts.now c.loop-part.types.items c.loop-part.part-index (omega arith) c.loop-part.invariant.judged))

pub tys-loop-part-init : goal.tys-loop-part-init
tys-loop-part-init t c =
    let empty = c.new-types.ensures.items in
    record { judged = rw empty (each_start IsType c.args.parts.now); sized = rw empty refl }

pub tys-loop-part-preserved : goal.tys-loop-part-preserved
tys-loop-part-preserved t c =
    let longer = c.in_ok-push.ensures.items in
    record {
      judged = rw longer (each_turn IsType c.args.parts.now c.loop-part.types.items c.loop-part.part-index c.part-item.result c.in_ok-part.part.ty (omega arith) c.part-item.is
          c.loop-part.invariant.judged c.in_ok-part.ensures.judged);
      sized = c.saturating_mul-product.ensures
          ∙ (product_turn c.loop-part.types.items c.in_ok-part.part.ty c.loop-part.product c.in_ok-part.part.size c.loop-part.invariant.sized c.in_ok-part.ensures.sized
          ∙ ap (λ ts. min (product (map count (map type_tree ts))) (2 ^ 32 - 1)) (sym longer));
    }
