use Rattle.std.proofs.Common.{◌<◌, length, set, sym, ap, ◌∙◌, subst, arith}
use Rattle.std.specs.Prelude.{slice_index}
use Rattle.std.proofs.lemmas.List.{length-map}
use Rattle.kf_value.specs.Types.{count}
use Rattle.kf_value.specs.Numbers.{weights, digits}
use Rattle.kf_value.specs.Shapes.{shape_types, shape_sizes}
use Rattle.kf_value.proofs.Digits.{length-weights, entry}
use Rattle.kf_value.proofs.Widening.{place_weight}
use Rattle.kf_value.proofs.Replacing.{replaced_held, replaced_below, replaced_digits}
use Rattle.kf_value.proofs.shape.Shape.with_digit.Goals as goal

pub index-requires : goal.index-requires
index-requires c =
    let long = length-map (shape_types c.args.self.now) count in
    let heavy = length-weights (shape_sizes c.args.self.now) in
    let listed = ap length c.args.self.now.weights_are in
    let kept = length-map c.args.self.now.places.items place_weight in
    let held = c.args.self.now.places.ok.0 in
    omega arith

pub overflow_mul-result : goal.overflow_mul-result
overflow_mul-result c =
    let ts = shape_types c.args.self.now in
    let long = length-map ts count in
    let heavy = length-weights (shape_sizes c.args.self.now) in
    let old = c.from-old.ensures ∙ c.slot.ensures.digit in
    let weight = c.number-weight.ensures ∙ entry place_weight c.args.self.now.places.items (weights (shape_sizes c.args.self.now)) c.args.i c.index.result.now c.args.self.now.weights_are (omega arith) c.index.ensures in
    let small = subst (λ k. k < slice_index (shape_sizes c.args.self.now) c.args.i) (sym c.from-new.ensures) c.requires.digit in
    let held = replaced_held ts c.args.self.now.sized c.args.store c.args.i c.from-old.result c.number-weight.result c.from-new.result c.requires.store c.requires.variable small old weight in
    omega (arith, held)

pub overflow_sub-result : goal.overflow_sub-result
overflow_sub-result c =
    let ts = shape_types c.args.self.now in
    let long = length-map ts count in
    let heavy = length-weights (shape_sizes c.args.self.now) in
    let old = c.from-old.ensures ∙ c.slot.ensures.digit in
    let weight = c.number-weight.ensures ∙ entry place_weight c.args.self.now.places.items (weights (shape_sizes c.args.self.now)) c.args.i c.index.result.now c.args.self.now.weights_are (omega arith) c.index.ensures in
    let small = subst (λ k. k < slice_index (shape_sizes c.args.self.now) c.args.i) (sym c.from-new.ensures) c.requires.digit in
    replaced_held ts c.args.self.now.sized c.args.store c.args.i c.from-old.result c.number-weight.result c.from-new.result c.requires.store c.requires.variable small old weight

pub overflow_mul-result-2 : goal.overflow_mul-result-2
overflow_mul-result-2 c =
    let ts = shape_types c.args.self.now in
    let long = length-map ts count in
    let heavy = length-weights (shape_sizes c.args.self.now) in
    let old = c.from-old.ensures ∙ c.slot.ensures.digit in
    let weight = c.number-weight.ensures ∙ entry place_weight c.args.self.now.places.items (weights (shape_sizes c.args.self.now)) c.args.i c.index.result.now c.args.self.now.weights_are (omega arith) c.index.ensures in
    let small = subst (λ k. k < slice_index (shape_sizes c.args.self.now) c.args.i) (sym c.from-new.ensures) c.requires.digit in
    let below = replaced_below ts c.args.self.now.sized c.args.store c.args.i c.from-old.result c.number-weight.result c.from-new.result c.requires.store c.requires.variable small old weight in
    let fits = c.args.self.now.fits in
    omega (arith, fits)

pub overflow_add-result : goal.overflow_add-result
overflow_add-result c =
    let ts = shape_types c.args.self.now in
    let long = length-map ts count in
    let heavy = length-weights (shape_sizes c.args.self.now) in
    let old = c.from-old.ensures ∙ c.slot.ensures.digit in
    let weight = c.number-weight.ensures ∙ entry place_weight c.args.self.now.places.items (weights (shape_sizes c.args.self.now)) c.args.i c.index.result.now c.args.self.now.weights_are (omega arith) c.index.ensures in
    let small = subst (λ k. k < slice_index (shape_sizes c.args.self.now) c.args.i) (sym c.from-new.ensures) c.requires.digit in
    let below = replaced_below ts c.args.self.now.sized c.args.store c.args.i c.from-old.result c.number-weight.result c.from-new.result c.requires.store c.requires.variable small old weight in
    let fits = c.args.self.now.fits in
    omega (arith, fits)

pub returns : goal.returns
returns c =
    let ts = shape_types c.args.self.now in
    let long = length-map ts count in
    let heavy = length-weights (shape_sizes c.args.self.now) in
    let old = c.from-old.ensures ∙ c.slot.ensures.digit in
    let weight = c.number-weight.ensures ∙ entry place_weight c.args.self.now.places.items (weights (shape_sizes c.args.self.now)) c.args.i c.index.result.now c.args.self.now.weights_are (omega arith) c.index.ensures in
    let small = subst (λ k. k < slice_index (shape_sizes c.args.self.now) c.args.i) (sym c.from-new.ensures) c.requires.digit in
    record {
      digits = replaced_digits ts c.args.self.now.sized c.args.store c.args.i c.from-old.result c.number-weight.result c.from-new.result c.requires.store c.requires.variable small old weight ∙ ap (λ n. set (digits (shape_sizes c.args.self.now) c.args.store) c.args.i n) c.from-new.ensures;
      below = replaced_below ts c.args.self.now.sized c.args.store c.args.i c.from-old.result c.number-weight.result c.from-new.result c.requires.store c.requires.variable small old weight;
    }
