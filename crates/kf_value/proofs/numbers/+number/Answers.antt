use Rattle.std.proofs.Common.{◌≡◌, ℕ, ◌*◌, ◌<◌, Some, map, slice_get, sym, ap, ◌∙◌, subst, arith, rules, FitsSigned, w64}
use Rattle.std.proofs.lemmas.Int.{to_z-of_z}
use Rattle.std.proofs.lemmas.Nat.{one_shl}
use Rattle.kf_value.specs.declared.ty.Ty.{the_lemmas as type_lemmas}
use Rattle.kf_value.specs.Forms.{IsWellFormed}
use Rattle.kf_value.specs.Sizes.{HasSize}
use Rattle.kf_value.specs.Types.{Boolean, Range, TupleOf, SetOf, type_parts, values, count}
use Rattle.kf_value.specs.TypeViews.{type_tree}
use Rattle.kf_value.specs.Values.{Whole, Tuple, Set, parts}
use Rattle.kf_value.specs.Views.{value_tree, type_trees}
use Rattle.kf_value.proofs.Alike.{tuple_tree}
use Rattle.kf_value.proofs.ByForm.{place_below, placed, range_sized, truth_place, no_boolean, no_range, no_tuple, no_set_value}
use Rattle.kf_value.proofs.Numbering.{elements_start, elements_step, element_fits, element_missing, elements_end, parts_start, parts_step, product_fits, part_missing, parts_end, parts_unequal}
use Rattle.kf_value.proofs.Sizing.{base_sized}
use Rattle.kf_value.proofs.Trees.{type_tree-Bool, type_tree-Int, type_tree-Tuple, type_tree-Set, value_tree-Bool, value_tree-Int, value_tree-Tuple}
use Rattle.kf_value.proofs.numbers.+number.Goals.{number-After-as_slice-in-Tuple-Tuple}
use Rattle.kf_value.proofs.numbers.+number.Goals as goal

pub number-returns-in_default : goal.number-returns-in_default
number-returns-in_default t c =
    let type = ap type_tree c.in_default.is-0 ∙ type_tree-Bool in
    record { place = λ n h. no_boolean n c.args.v.now c.in_default.not-Bool-1 (ap (λ u. slice_get (values u) n) (sym type) ∙ h); below = tt }

pub number-returns-in_default-2 : goal.number-returns-in_default-2
number-returns-in_default-2 t c =
    let type = ap type_tree c.in_default.is-0 ∙ type_tree-Int c.in_default.field-0-0 c.in_default.field-1-0 in
    record {
      place = λ n h. no_range n c.in_default.field-0-0 c.in_default.field-1-0 c.args.v.now c.in_default.not-Int-1 (ap (λ u. slice_get (values u) n) (sym type) ∙ h);
      below = tt;
    }

pub number-returns-in_default-3 : goal.number-returns-in_default-3
number-returns-in_default-3 t c =
    let type = ap type_tree c.in_default.is-0 ∙ type_tree-Tuple c.in_default.field-0-0 in
    record {
      place = λ n h. no_tuple n (type_trees c.in_default.field-0-0) c.args.v.now c.in_default.not-Tuple-1 (ap (λ u. slice_get (values u) n) (sym type) ∙ h);
      below = tt;
    }

pub number-returns-in_default-4 : goal.number-returns-in_default-4
number-returns-in_default-4 t c =
    let type = ap type_tree c.in_default.is-0 ∙ type_tree-Set c.in_default.field-0-0 in
    record {
      place = λ n h. no_set_value n (type_tree c.in_default.field-0-0.value) c.args.v.now c.in_default.not-Set-1 (ap (λ u. slice_get (values u) n) (sym type) ∙ h);
      below = tt;
    }

pub number-returns-in-Bool-Bool-clause-place : goal.number-returns-in-Bool-Bool-clause-place
number-returns-in-Bool-Bool-clause-place t c =
    let type = ap type_tree c.in-Bool-Bool.is-0 ∙ type_tree-Bool in
    let value = ap value_tree c.in-Bool-Bool.is-1 ∙ value_tree-Bool c.in-Bool-Bool.truth in
    ap (λ u. slice_get (values u) c.from.result) type
    ∙ (ap (slice_get (values Boolean)) c.from.ensures ∙ (truth_place c.in-Bool-Bool.truth ∙ ap (λ v. Some v) (sym value)))

pub number_of_elements-loop-element-init : goal.number_of_elements-loop-element-init
number_of_elements-loop-element-init t c = elements_start (type_tree c.args.base.now) c.args.elements.now c.requires.formed

pub number_of_elements-overflow_add-n : goal.number_of_elements-overflow_add-n
number_of_elements-overflow_add-n t c =
    let few = base_sized (type_tree c.args.base.now) c.requires.sized in
    let below = c.in_ok-n.ensures.below in
    let shift = one_shl c.in_ok-n.field-0 32 (omega arith) in
    let fits = element_fits (type_tree c.args.base.now) c.requires.sized c.args.elements.now c.loop-element.element-index c.loop-element.n c.element-item.result
    (omega arith) c.element-item.is c.loop-element.invariant c.in_ok-n.field-0 c.in_ok-n.ensures.place in
    rw shift (omega (arith, fits))

pub number_of_elements-loop-element-preserved : goal.number_of_elements-loop-element-preserved
number_of_elements-loop-element-preserved t c =
    let few = base_sized (type_tree c.args.base.now) c.requires.sized in
    let below = c.in_ok-n.ensures.below in
    let shift = one_shl c.in_ok-n.field-0 32 (omega arith) in
    let next = elements_step (type_tree c.args.base.now) c.requires.sized c.args.elements.now c.loop-element.element-index c.loop-element.n c.element-item.result
    (omega arith) c.element-item.is c.loop-element.invariant c.in_ok-n.field-0 c.in_ok-n.ensures.place in
    rw shift next

pub number_of_elements-returns-in_err-n : goal.number_of_elements-returns-in_err-n
number_of_elements-returns-in_err-n t c =
    let missing = element_missing (type_tree c.args.base.now) c.requires.sized c.args.elements.now c.loop-element.element-index c.loop-element.n c.element-item.result
    (omega arith) c.element-item.is c.loop-element.invariant c.in_err-n.ensures.place in
    rw (c.from_residual.ensures) (record { place = missing; below = tt })

pub number_of_elements-returns : goal.number_of_elements-returns
number_of_elements-returns t c =
    let place = elements_end (type_tree c.args.base.now) c.args.elements.now c.loop-element.element-index c.loop-element.n (omega arith) c.loop-element.invariant in
    record { place = place; below = place_below (SetOf (type_tree c.args.base.now)) (Set (parts (map value_tree c.args.elements.now))) (Some c.loop-element.n) place }

pub number_of_parts-returns-then-types-parts-clause-place : goal.number_of_parts-returns-then-types-parts-clause-place
number_of_parts-returns-then-types-parts-clause-place t c = parts_unequal c.args.types.now c.requires.sized c.args.parts.now (λ same. omega arith)

pub number_of_parts-loop-i-init : goal.number_of_parts-loop-i-init
number_of_parts-loop-i-init t c = parts_start c.args.types.now c.requires.sized c.args.parts.now c.requires.formed

pub number_of_parts-overflow_mul-n : goal.number_of_parts-overflow_mul-n
number_of_parts-overflow_mul-n t c =
    let fits = product_fits c.args.types.now c.requires.sized c.args.parts.now c.loop-i.i c.loop-i.n c.index-types-i.result c.index-parts-i.result
    (omega arith) (omega arith) c.index-types-i.is c.index-parts-i.is c.loop-i.invariant in
    let product : c.loop-i.n * c.known_size.result ≡ c.loop-i.n * count (type_tree c.index-types-i.result) = ap (λ s. c.loop-i.n * s) c.known_size.ensures.exact in
    rw product (omega arith)

pub number_of_parts-overflow_add-n : goal.number_of_parts-overflow_add-n
number_of_parts-overflow_add-n t c =
    let fits = product_fits c.args.types.now c.requires.sized c.args.parts.now c.loop-i.i c.loop-i.n c.index-types-i.result c.index-parts-i.result
    (omega arith) (omega arith) c.index-types-i.is c.index-parts-i.is c.loop-i.invariant in
    let product : c.loop-i.n * c.known_size.result ≡ c.loop-i.n * count (type_tree c.index-types-i.result) = ap (λ s. c.loop-i.n * s) c.known_size.ensures.exact in
    let below : c.in_ok-n.field-0 < count (type_tree c.index-types-i.result) = c.in_ok-n.ensures.below in
    rw product (omega arith)

pub number_of_parts-returns-in_err-n : goal.number_of_parts-returns-in_err-n
number_of_parts-returns-in_err-n t c =
    let missing = part_missing c.args.types.now c.requires.sized c.args.parts.now c.loop-i.i c.loop-i.n c.index-types-i.result c.index-parts-i.result
    (omega arith) (omega arith) c.index-types-i.is c.index-parts-i.is c.loop-i.invariant c.in_err-n.ensures.place in
    rw (c.from_residual.ensures) (record { place = missing; below = tt })

pub number_of_parts-loop-i-preserved : goal.number_of_parts-loop-i-preserved
number_of_parts-loop-i-preserved t c =
    let next = parts_step c.args.types.now c.requires.sized c.args.parts.now c.loop-i.i c.loop-i.n c.index-types-i.result c.index-parts-i.result
    (omega arith) (omega arith) c.index-types-i.is c.index-parts-i.is c.loop-i.invariant c.in_ok-n.field-0 c.in_ok-n.ensures.place in
    rw (c.known_size.ensures.exact) next

pub number_of_parts-returns : goal.number_of_parts-returns
number_of_parts-returns t c =
    let place = parts_end c.args.types.now c.requires.sized c.args.parts.now c.loop-i.i c.loop-i.n (omega arith) (omega arith) c.loop-i.invariant in
    record { place = place; below = place_below (TupleOf (type_parts (map type_tree c.args.types.now))) (Tuple (parts (map value_tree c.args.parts.now))) (Some c.loop-i.n) place }

pub number-number_in_range-requires : goal.number-number_in_range-requires
number-number_in_range-requires t c =
    let type = ap type_tree c.in-Int-Int.is-0 ∙ type_tree-Int c.in-Int-Int.lo c.in-Int-Int.hi in
    let low : FitsSigned w64 c.in-Int-Int.lo = search rules in
    let high : FitsSigned w64 c.in-Int-Int.hi = search rules in
    rw (to_z-of_z w64 c.in-Int-Int.lo low, to_z-of_z w64 c.in-Int-Int.hi high)
    (range_sized c.in-Int-Int.lo c.in-Int-Int.hi (subst HasSize type c.requires.sized))

pub number-returns-in-Int-Int-clause-place : goal.number-returns-in-Int-Int-clause-place
number-returns-in-Int-Int-clause-place t c =
    let low : FitsSigned w64 c.in-Int-Int.lo = search rules in
    let high : FitsSigned w64 c.in-Int-Int.hi = search rules in
    let fits : FitsSigned w64 c.in-Int-Int.whole = search rules in
    let lo = to_z-of_z w64 c.in-Int-Int.lo low in
    let hi = to_z-of_z w64 c.in-Int-Int.hi high in
    let type = ap type_tree c.in-Int-Int.is-0 ∙ type_tree-Int c.in-Int-Int.lo c.in-Int-Int.hi in
    let value = ap value_tree c.in-Int-Int.is-1 ∙ value_tree-Int c.in-Int-Int.whole in
    placed _ _ _ _ c.number_in_range.result ((λ k. Range (lo k) (hi k)) ∙ sym type)
    (ap (λ i. Whole i) (to_z-of_z w64 c.in-Int-Int.whole fits) ∙ sym value) c.number_in_range.ensures.place

module _ (t : ℕ) (c : number-After-as_slice-in-Tuple-Tuple t) where
  tuple_type : type_tree c.args.ty.now ≡ TupleOf (type_parts (map type_tree c.as_slice.result.now))
  tuple_type = tuple_tree c.args.ty.now c.in-Tuple-Tuple.types c.as_slice.result.now c.in-Tuple-Tuple.is-0 c.as_slice.ensures

  tuple_value : value_tree c.args.v.now ≡ Tuple (parts (map value_tree c.as_slice-in-Tuple-Tuple.result.now))
  tuple_value = ap value_tree c.in-Tuple-Tuple.is-1
      ∙ (value_tree-Tuple c.in-Tuple-Tuple.parts ∙ ap (λ us. Tuple (parts (map value_tree us))) (sym c.as_slice-in-Tuple-Tuple.ensures))

pub number-number_of_parts-requires : goal.number-number_of_parts-requires
number-number_of_parts-requires t c =
    (search (rules, type_lemmas), (subst HasSize (tuple_type t c) c.requires.sized, subst IsWellFormed (tuple_value t c) c.requires.formed))

pub number-returns-in-Tuple-Tuple-clause-place : goal.number-returns-in-Tuple-Tuple-clause-place
number-returns-in-Tuple-Tuple-clause-place t c =
    let at = (goal.at.number-returns-in-Tuple-Tuple-clause-place t c).After-as_slice-in-Tuple-Tuple in
    placed _ _ _ _ c.number_of_parts.result (sym (tuple_type t at)) (sym (tuple_value t at)) c.number_of_parts.ensures.place
