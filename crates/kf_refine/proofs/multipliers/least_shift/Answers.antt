use Rattle.std.proofs.Common.{FitsSigned, rules, arith, ◌∙◌}
use Rattle.std.proofs.lemmas.Int.{to_z-of_z, ints}
use mir.Syntax.{w64}
use Rattle.kf_simplex.specs.Base.{at}
use Rattle.kf_refine.proofs.Tabling.{shift_keeps, shift_grows}
use Rattle.kf_refine.proofs.multipliers.least_shift.Goals as goal
use Rattle.kf_refine.proofs.multipliers.least_shift.Goals.{then-number-lt0, else-number-lt0}

pub loop-number-preserved : goal.loop-number-preserved
loop-number-preserved c =
    let f : FitsSigned w64 (at c.args.numbers.now c.loop-number.number-index) = search rules in
    let e = to_z-of_z w64 (at c.args.numbers.now c.loop-number.number-index) f in
    elim c.if-number-lt0.branch [
      | then-number-lt0 w ↦
          shift_grows c.args.numbers.now c.loop-number.number-index c.loop-number.shift c.if-number-lt0.shift _ e
          (omega (arith, ints)) (rw w.unsigned_abs.ensures.value at (w.shift-is ∙ w.max-shift.ensures)) c.loop-number.invariant
      | else-number-lt0 w ↦
          rw w.shift-is (shift_keeps c.args.numbers.now c.loop-number.number-index c.loop-number.shift _ e (omega (arith, ints)) c.loop-number.invariant)
    ]
