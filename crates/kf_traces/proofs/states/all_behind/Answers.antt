use Rattle.std.proofs.Common.{◌≡◌, [], ◌∷◌, ◌++◌, ap, ◌∙◌, sym, map, arith, refl}
use Rattle.std.specs.Vec.Iter.{into_iter_items}
use Rattle.kf_value.specs.Views.{value_tree}
use Rattle.kf_traces.specs.Traced.{behind}
use Rattle.kf_traces.specs.Views.{part_of, traced_of}
use Rattle.kf_traces.proofs.Walking.{behind_last, mapped_joined, none_left, ones_start, ones_step}
use Rattle.kf_traces.proofs.states.all_behind.Goals as goal

pub loop-part-init : goal.loop-part-init
loop-part-init c =
    let left = map part_of (into_iter_items c.into_iter-part-iterator.result) in
    ones_start (behind (map value_tree c.args.trace.items)) (map traced_of c.new-states.result.items) left left (ap (map traced_of) c.new-states.ensures.items) refl

pub loop-part-preserved : goal.loop-part-preserved
loop-part-preserved c =
    let put = behind (map value_tree c.args.trace.items) in
    let done = map traced_of c.loop-part.states.items in
    let made = c.in_ok-behind.ensures ∙ ap (λ vs. behind (map value_tree vs) (part_of c.in-Some-part.part)) c.as_slice.ensures.value in
    ones_step put (map put (map part_of (into_iter_items c.into_iter-part-iterator.result))) done (map traced_of c.push.new.self.items) (map part_of (into_iter_items c.loop-part.part-iterator))
    (map part_of (into_iter_items c.next.new.self)) (part_of c.in-Some-part.part) (ap (map part_of) c.in-Some-part.ensures.steps.0)
    (mapped_joined traced_of c.push.new.self.items c.loop-part.states.items (c.in_ok-behind.field-0 ∷ []) c.in_ok-push.ensures.items ∙ ap (λ s. done ++ s ∷ []) made) c.loop-part.invariant

pub returns : goal.returns
returns c =
    let put = behind (map value_tree c.args.trace.items) in
    let done = map traced_of c.loop-part.states.items in
    let whole = c.into_iter-part-iterator.ensures.into_iter_gives.0 in
    let none : into_iter_items c.loop-part.part-iterator ≡ [] = none_left _ (omega (arith, c.in-None.ensures.steps.0, c.loop-part.part-iterator.rest.ok)) in
    behind_last part_of put c.args.parts.items (into_iter_items c.into_iter-part-iterator.result) c.in-Some.last done (map traced_of c.push-2.new.self.items) (traced_of c.in_ok-moved_behind.field-0)
    (c.in-Some.ensures.items ∙ ap (λ xs. xs ++ c.in-Some.last ∷ []) (sym whole))
    (ap (λ xs. done ++ map put (map part_of xs)) (sym none) ∙ c.loop-part.invariant)
    (mapped_joined traced_of c.push-2.new.self.items c.loop-part.states.items (c.in_ok-moved_behind.field-0 ∷ []) c.in_ok-push-2.ensures.items)
    c.in_ok-moved_behind.ensures
