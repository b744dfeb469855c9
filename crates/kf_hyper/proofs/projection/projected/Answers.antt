use Rattle.std.proofs.Common.{◌≡◌, ℕ, ◌+◌, ◌*◌, ◌<◌, ap, sym, ◌∙◌, arith, get_or, take}
use Rattle.std.proofs.lemmas.List.{length-map, get_or_default}
use Rattle.kf_value.specs.Numbers.{digits}
use Rattle.kf_value.specs.Shapes.{shape_sizes}
use Rattle.kf_column.specs.Projection.{projected}
use Rattle.kf_hyper.proofs.Projecting.{number_more, number_room, number_below, first_product}
use Rattle.kf_hyper.proofs.projection.projected.Goals as goal

pub overflow_mul-number : goal.overflow_mul-number
overflow_mul-number c =
    let sizes = shape_sizes c.args.shape.now in
    let i = c.from-i.result in
    let is : i ≡ get_or c.args.slots.now c.loop-slot.slot-index i = c.from-i.ensures ∙ get_or_default c.args.slots.now c.loop-slot.slot-index 0 i c.loop-slot-test.true in
    let size : c.from.result ≡ get_or sizes i 0 = c.from.ensures ∙ c.size.ensures in
    let room = number_room c.args.slots.now c.loop-slot.slot-index i c.loop-slot-test.true is sizes c.args.store c.loop-slot.number c.loop-slot.invariant.below in
    let all = first_product sizes c.args.slots.now (c.loop-slot.slot-index + 1) (omega (arith, c.requires.store)) (rw length-map c.requires.places) c.requires.apart in
    omega (arith, ap (λ (n : ℕ). c.loop-slot.number * n) size, room, all, c.args.shape.now.fits)

pub overflow_add-number : goal.overflow_add-number
overflow_add-number c =
    let sizes = shape_sizes c.args.shape.now in
    let i = c.from-i.result in
    let is : i ≡ get_or c.args.slots.now c.loop-slot.slot-index i = c.from-i.ensures ∙ get_or_default c.args.slots.now c.loop-slot.slot-index 0 i c.loop-slot-test.true in
    let size : c.from.result ≡ get_or sizes i 0 = c.from.ensures ∙ c.size.ensures in
    let digit : c.from-in-loop-slot.result < get_or sizes i 0 = omega (arith, c.from-in-loop-slot.ensures, c.slot.ensures.below) in
    let below = number_below c.args.slots.now c.loop-slot.slot-index i c.loop-slot-test.true is sizes c.args.store c.loop-slot.number c.from-in-loop-slot.result c.loop-slot.invariant.below digit in
    let all = first_product sizes c.args.slots.now (c.loop-slot.slot-index + 1) (omega (arith, c.requires.store)) (rw length-map c.requires.places) c.requires.apart in
    omega (arith, ap (λ (n : ℕ). c.loop-slot.number * n) size, below, all, c.args.shape.now.fits)

pub loop-slot-preserved : goal.loop-slot-preserved
loop-slot-preserved c =
    let sizes = shape_sizes c.args.shape.now in
    let i = c.from-i.result in
    let is : i ≡ get_or c.args.slots.now c.loop-slot.slot-index i = c.from-i.ensures ∙ get_or_default c.args.slots.now c.loop-slot.slot-index 0 i c.loop-slot-test.true in
    let size : c.from.result ≡ get_or sizes i 0 = c.from.ensures ∙ c.size.ensures in
    let slot : c.from-in-loop-slot.result ≡ get_or (digits sizes c.args.store) i 0 = c.from-in-loop-slot.ensures ∙ c.slot.ensures.digit in
    let digit : c.from-in-loop-slot.result < get_or sizes i 0 = omega (arith, c.from-in-loop-slot.ensures, c.slot.ensures.below) in
    record {
      number = ap (λ (n : ℕ). c.loop-slot.number * n + c.from-in-loop-slot.result) size ∙ ap (λ (n : ℕ). n * get_or sizes i 0 + c.from-in-loop-slot.result) c.loop-slot.invariant.number
          ∙ ap (λ (d : ℕ). projected sizes (take c.loop-slot.slot-index c.args.slots.now) c.args.store * get_or sizes i 0 + d) slot
          ∙ sym (number_more c.args.slots.now c.loop-slot.slot-index i c.loop-slot-test.true is sizes c.args.store);
      below = rw size (number_below c.args.slots.now c.loop-slot.slot-index i c.loop-slot-test.true is sizes c.args.store c.loop-slot.number c.from-in-loop-slot.result c.loop-slot.invariant.below digit);
    }
