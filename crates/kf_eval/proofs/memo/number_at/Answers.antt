use Rattle.std.proofs.Common.{ℕ, ◌*◌, ◌<◌, All, length, ap, ◌∙◌, arith}
use Rattle.std.proofs.lemmas.List.{length-map}
use Rattle.kf_value.specs.Numbers.{digits}
use Rattle.kf_value.specs.Shapes.{shape_sizes}
use Rattle.kf_eval.proofs.Numbered.{digit_fits, digit_more, room_more}
use Rattle.kf_eval.proofs.memo.number_at.Goals as goal

pub overflow_mul-number : goal.overflow_mul-number
overflow_mul-number c =
    let ss = shape_sizes c.args.shape.now in
    let slots = c.args.slots.now in
    let k = c.loop-slot.slot-index in
    let fit = c.store_laws.ensures.digits_fit ss c.args.store c.requires.store in
    let within : All (λ (i : ℕ). i < length ss) slots = rw length-map c.requires.within in
    let fits = digit_fits ss (digits ss c.args.store) fit slots within k c.loop-slot-test.true c.loop-slot.number _ c.loop-slot.invariant.room in
    omega (arith, ap (λ (s : ℕ). c.loop-slot.number * s) c.size.ensures, fits, c.requires.fits)

pub overflow_add-number : goal.overflow_add-number
overflow_add-number c =
    let ss = shape_sizes c.args.shape.now in
    let slots = c.args.slots.now in
    let k = c.loop-slot.slot-index in
    let fit = c.store_laws.ensures.digits_fit ss c.args.store c.requires.store in
    let within : All (λ (i : ℕ). i < length ss) slots = rw length-map c.requires.within in
    let fits = digit_fits ss (digits ss c.args.store) fit slots within k c.loop-slot-test.true c.loop-slot.number _ c.loop-slot.invariant.room in
    omega (arith, ap (λ (s : ℕ). c.loop-slot.number * s) c.size.ensures, c.slot.ensures.digit, fits, c.requires.fits)

pub loop-slot-preserved : goal.loop-slot-preserved
loop-slot-preserved c =
    let ss = shape_sizes c.args.shape.now in
    let slots = c.args.slots.now in
    let k = c.loop-slot.slot-index in
    let n = c.loop-slot.number in
    let fit = c.store_laws.ensures.digits_fit ss c.args.store c.requires.store in
    let within : All (λ (i : ℕ). i < length ss) slots = rw length-map c.requires.within in
    record {
      whole = rw (c.size.ensures, c.slot.ensures.digit) (digit_more ss (digits ss c.args.store) fit slots within k c.loop-slot-test.true n ∙ c.loop-slot.invariant.whole);
      room = rw (c.size.ensures, c.slot.ensures.digit) (room_more ss (digits ss c.args.store) fit slots within k c.loop-slot-test.true n _ c.loop-slot.invariant.room);
    }
