use Rattle.std.proofs.Common.{◌≡◌, ◌+◌, ◌/◌, ◌<◌, Some, pos, ◌+ℤ◌, to_z, of_z, w64, map, drop, slice_get, sym, ap, ◌∙◌, subst, arith, rules}
use Rattle.kf_value.specs.declared.ty.Ty.{the_lemmas as type_lemmas}
use Rattle.kf_value.specs.Forms.{IsWellFormed}
use Rattle.kf_value.specs.Types.{type_parts, Range, TupleOf, SetOf, values, count}
use Rattle.kf_value.specs.Sizes.{HasSize, HasNumber}
use Rattle.kf_value.specs.TypeViews.{type_tree}
use Rattle.kf_value.specs.Values.{Whole, Tuple, Set, parts}
use Rattle.kf_value.specs.Views.{value_tree}
use Rattle.kf_value.proofs.Trees.{type_tree-Bool, type_tree-Int, value_tree-Bool, value_tree-Int, value_tree-Tuple}
use Rattle.std.specs.Prelude.{◌==◌}
use Rattle.kf_value.proofs.ByForm.{truth_at, whole_place, range_sized, range_sum}
use Rattle.kf_value.proofs.Alike.{tuple_tree}
use Rattle.kf_value.proofs.ListLemmas.{left_step, left_end}
use Rattle.kf_value.proofs.Finding.{find_tuple_start, find_weight, find_parts_step, find_tuple_end, find_with, find_without, find_elements_end}
use Rattle.kf_value.proofs.nth.+value_at.Goals as goal
use Rattle.kf_value.proofs.nth.+value_at.Goals.{elements_at-then-left-eq1+in_ok-value_at+in_ok-push, elements_at-else-left-eq1}

pub parts_at-loop-ty-init : goal.parts_at-loop-ty-init
parts_at-loop-ty-init t c =
    rw (c.new-parts.ensures.items)
    (find_tuple_start (map type_tree c.args.types.now) c.args.n c.known_product-weight.result c.requires.sized c.requires.below c.known_product-weight.ensures)

pub parts_at-loop-ty-preserved : goal.parts_at-loop-ty-preserved
parts_at-loop-ty-preserved t c =
    let later = map type_tree (drop (c.loop-ty.ty-index + 1) c.args.types.now) in
    let here = left_step type_tree c.args.types.now c.loop-ty.ty-index c.ty-item.result (omega arith) c.ty-item.is in
    let found = rw here at c.loop-ty.invariant in
    let weighs = find_weight (map type_tree c.args.types.now) c.args.n c.loop-ty.weight (type_tree c.ty-item.result) later c.loop-ty.parts.items found in
    let weight = ap (λ s. c.loop-ty.weight / s) c.known_size-size.ensures.exact ∙ weighs in
    let place = rw (weight, c.known_size-size.ensures.exact) at c.in_ok-value_at.ensures.place in
    let next = find_parts_step (map type_tree c.args.types.now) c.args.n c.loop-ty.weight (type_tree c.ty-item.result) later c.loop-ty.parts.items found
    c.in_ok-value_at.field-0 place in
    rw (weight, c.in_ok-push.ensures.items) next

pub parts_at-returns : goal.parts_at-returns
parts_at-returns t c =
    let used = left_end type_tree c.args.types.now c.loop-ty.ty-index (omega arith) in
    let done = find_tuple_end (map type_tree c.args.types.now) c.args.n c.loop-ty.weight c.loop-ty.parts.items (rw used at c.loop-ty.invariant) in
    subst (λ items. HasNumber (TupleOf (type_parts (map type_tree c.args.types.now))) (Tuple (parts (map value_tree items))) c.args.n) (sym c.new.ensures) done

pub elements_at-loop-k-preserved : goal.elements_at-loop-k-preserved
elements_at-loop-k-preserved t c =
    let inside : c.loop-k.k < count (type_tree c.args.base.now) = rw (← c.known_size-k-end.ensures.exact) (omega arith) in
    elim c.if-left-eq1.branch [
      | elements_at-then-left-eq1+in_ok-value_at+in_ok-push w ↦
          let next = find_with (type_tree c.args.base.now) c.args.n c.loop-k.k c.loop-k.left c.loop-k.elements.items inside c.loop-k.invariant (omega arith)
          w.in_ok-value_at.field-0 w.in_ok-value_at.ensures.place in
          rw (w.elements-is, w.in_ok-push.ensures.items) next
      | elements_at-else-left-eq1 w ↦
          rw (w.elements-is) (find_without (type_tree c.args.base.now) c.args.n c.loop-k.k c.loop-k.left c.loop-k.elements.items inside c.loop-k.invariant (λ odd. omega arith))
    ]

pub elements_at-returns : goal.elements_at-returns
elements_at-returns t c =
    let done = find_elements_end (type_tree c.args.base.now) c.args.n c.loop-k.k c.loop-k.left c.loop-k.elements.items
    (rw (← c.known_size-k-end.ensures.exact) (omega arith)) c.loop-k.invariant in
    subst (λ items. HasNumber (SetOf (type_tree c.args.base.now)) (Set (parts (map value_tree items))) c.args.n) (sym c.new.ensures) done

pub value_at-returns-in-Bool-clause-place : goal.value_at-returns-in-Bool-clause-place
value_at-returns-in-Bool-clause-place t c =
    let type = ap type_tree c.in-Bool.is ∙ type_tree-Bool in
    let below : c.args.n < 2 = subst (λ u. c.args.n < count u) type c.requires.below in
    ap (λ u. slice_get (values u) c.args.n) type ∙ (truth_at c.args.n below ∙ ap (λ v. Some v) (sym (value_tree-Bool (c.args.n == 1))))

pub value_at-returns-in-Int-clause-place : goal.value_at-returns-in-Int-clause-place
value_at-returns-in-Int-clause-place t c =
    let type = ap type_tree c.in-Int.is ∙ type_tree-Int c.in-Int.lo c.in-Int.hi in
    let bounds = range_sized c.in-Int.lo c.in-Int.hi (subst HasSize type c.requires.sized) in
    let below : c.args.n < count (Range c.in-Int.lo c.in-Int.hi) = subst (λ u. c.args.n < count u) type c.requires.below in
    let sum : to_z w64 (of_z w64 (to_z w64 (of_z w64 c.in-Int.lo) +ℤ to_z w64 (of_z w64 c.from.result))) ≡ c.in-Int.lo +ℤ pos c.args.n =
    rw (c.from.ensures) (range_sum c.in-Int.lo c.in-Int.hi c.args.n bounds below) in
    ap (λ u. slice_get (values u) c.args.n) type
    ∙ (whole_place c.in-Int.lo c.in-Int.hi c.args.n below ∙ (ap (λ i. Some (Whole i)) (sym sum) ∙ ap (λ v. Some v) (sym (value_tree-Int _))))

pub value_at-parts_at-requires : goal.value_at-parts_at-requires
value_at-parts_at-requires t c =
    let type = tuple_tree c.args.ty.now c.in-Tuple.types c.as_slice.result.now c.in-Tuple.is c.as_slice.ensures in
    (search (rules, type_lemmas), (subst HasSize type c.requires.sized, subst (λ u. c.args.n < count u) type c.requires.below))

pub value_at-returns-in-Int-clause-formed : goal.value_at-returns-in-Int-clause-formed
value_at-returns-in-Int-clause-formed t c = λ ok. subst IsWellFormed (sym (value_tree-Int _)) tt

pub value_at-returns-in_ok-parts_at-in-Tuple-clause-place : goal.value_at-returns-in_ok-parts_at-in-Tuple-clause-place
value_at-returns-in_ok-parts_at-in-Tuple-clause-place t c =
    let type = tuple_tree c.args.ty.now c.in-Tuple.types c.as_slice.result.now c.in-Tuple.is c.as_slice.ensures in
    rw (type, value_tree-Tuple c.in_ok-parts_at-in-Tuple.field-0) c.in_ok-parts_at-in-Tuple.ensures
