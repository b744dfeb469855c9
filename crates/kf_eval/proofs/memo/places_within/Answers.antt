use Rattle.std.proofs.Common.{◌+◌, ◌*◌, ℕ, ap, ◌∙◌, drop}
use Rattle.kf_value.specs.Shapes.{shape_sizes}
use Rattle.kf_eval.specs.Reads.{span}
use Rattle.kf_eval.proofs.Numbered.{span_more}
use Rattle.kf_eval.proofs.memo.places_within.Goals as goal

pub loop-slot-preserved : goal.loop-slot-preserved
loop-slot-preserved c =
    let ss = shape_sizes c.args.shape.now in
    let slots = c.args.slots.now in
    let k = c.loop-slot.slot-index in
    let n = c.loop-slot.count in
    ap (λ (m : ℕ). m * span ss (drop (k + 1) slots)) (c.in-Some.ensures.1 ∙ ap (λ (s : ℕ). n * s) c.size.ensures) ∙ span_more ss slots k n c.loop-slot-test.true ∙ c.loop-slot.invariant
