use Rattle.std.proofs.Common.{◌≡◌, ◌+◌, ◌-◌, ◌/◌, ◌^◌, min, None, map, drop, sym, ap, ◌∙◌, subst, arith}
use Rattle.std.proofs.lemmas.List.Elements.{All-head}
use Rattle.kf_value.specs.Types.{count, product}
use Rattle.kf_value.specs.Sizes.{fault_of}
use Rattle.kf_value.specs.TypeViews.{type_tree}
use Rattle.kf_value.specs.Numbers.{weights}
use Rattle.kf_value.specs.Views.{type_trees}
use Rattle.kf_value.proofs.ListLemmas.{left_step, left_end, mapped_push}
use Rattle.kf_value.proofs.Widening.{AllSized, counted_exact, place_size, place_weight, list_start, weighs, list_step, list_end}
use Rattle.kf_value.proofs.shape.Shape.new.Goals as goal

pub loop-ty-init : goal.loop-ty-init
loop-ty-init c =
    let same : c.as_slice-ty-items.result.now ≡ c.as_slice.result.now = c.as_slice-ty-items.ensures ∙ sym c.as_slice.ensures in
    let sized = subst (λ ts. AllSized (map type_tree ts)) (sym c.as_slice-ty-items.ensures) c.requires.sized in
    let stores = c.store_count-stores.ensures ∙ ap (λ ts. min (product (map count (map type_tree ts))) (2 ^ 64 - 1)) (sym same) in
    rw c.new-places.ensures.items
    (list_start (map type_tree c.as_slice-ty-items.result.now) c.store_count-stores.result sized (omega arith)
    (counted_exact c.store_count-stores.result (product (map count (map type_tree c.as_slice-ty-items.result.now))) stores (omega arith)))

pub known_size-requires : goal.known_size-requires
known_size-requires c =
    let here = left_step type_tree c.as_slice-ty-items.result.now c.loop-ty.ty-index c.ty-item.result (omega arith) c.ty-item.is in
    All-head (λ t. fault_of t ≡ None) (type_tree c.ty-item.result) (map type_tree (drop (c.loop-ty.ty-index + 1) c.as_slice-ty-items.result.now)) (rw here at c.loop-ty.invariant.ok)

pub new-requires : goal.new-requires
new-requires c =
    let here = left_step type_tree c.as_slice-ty-items.result.now c.loop-ty.ty-index c.ty-item.result (omega arith) c.ty-item.is in
    let heavy = weighs (map type_tree c.as_slice-ty-items.result.now) (type_tree c.ty-item.result) (map type_tree (drop (c.loop-ty.ty-index + 1) c.as_slice-ty-items.result.now))
    (map place_size c.loop-ty.places.items) (map place_weight c.loop-ty.places.items) c.loop-ty.weight (rw here at c.loop-ty.invariant) in
    rw (c.from-size.ensures, c.known_size.ensures.exact) (record { some = heavy.0; few = heavy.1 })

pub loop-ty-preserved : goal.loop-ty-preserved
loop-ty-preserved c =
    let here = left_step type_tree c.as_slice-ty-items.result.now c.loop-ty.ty-index c.ty-item.result (omega arith) c.ty-item.is in
    let next = list_step (map type_tree c.as_slice-ty-items.result.now) (type_tree c.ty-item.result) (map type_tree (drop (c.loop-ty.ty-index + 1) c.as_slice-ty-items.result.now))
    (map place_size c.loop-ty.places.items) (map place_weight c.loop-ty.places.items) c.loop-ty.weight (rw here at c.loop-ty.invariant) in
    let size = c.from-size.ensures ∙ c.known_size.ensures.exact in
    let sized = mapped_push place_size c.loop-ty.places.items c.push.new.self.items _ (count (type_tree c.ty-item.result)) c.in_ok-push.ensures.items (c.new-in-loop-ty.ensures ∙ size) in
    let weighed = mapped_push place_weight c.loop-ty.places.items c.push.new.self.items _ (c.loop-ty.weight / count (type_tree c.ty-item.result)) c.in_ok-push.ensures.items
    (c.new.ensures ∙ ap (λ s. c.loop-ty.weight / s) size) in
    rw (sized, weighed, size) next

pub invariant_of-result : goal.invariant_of-result
invariant_of-result c =
    let used = left_end type_tree c.as_slice-ty-items.result.now c.loop-ty.ty-index (omega arith) in
    let done = list_end (map type_tree c.as_slice-ty-items.result.now) (map place_size c.loop-ty.places.items) (map place_weight c.loop-ty.places.items) c.loop-ty.weight (rw used at c.loop-ty.invariant) in
    let types = c.as_slice-ty-items.ensures in
    let stores = c.store_count-stores.ensures ∙ ap (λ ts. min (product (map count (map type_tree ts))) (2 ^ 64 - 1)) c.as_slice.ensures in
    let counted = counted_exact c.store_count-stores.result (product (map count (type_trees c.args.types))) stores (omega arith) in
    record {
      formed = c.requires.formed;
      sized = c.requires.sized;
      some = c.requires.some;
      few = c.requires.few;
      fits = rw (← counted) (omega arith);
      sizes_are = done.0 ∙ ap (λ ts. map count (map type_tree ts)) types;
      weights_are = done.1 ∙ ap (λ ts. weights (map count (map type_tree ts))) types;
    }
