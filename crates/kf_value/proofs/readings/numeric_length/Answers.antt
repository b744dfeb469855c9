use Rattle.std.proofs.Common.{◌≡◌, ◌<◌, true, false, length, length-append, get_or, sym, ap, ◌∙◌, subst, arith}
use Rattle.kf_value.specs.Readings.{is_numeric}
use Rattle.kf_value.proofs.ReadingNumbers.{goes_on, ends_there}
use Rattle.kf_value.proofs.readings.numeric_length.Goals as goal

pub loop-i-init : goal.loop-i-init
loop-i-init c = λ ds r all stops whole. omega arith

pub loop-i-preserved : goal.loop-i-preserved
loop-i-preserved c = λ ds r all stops whole.
    goes_on ds r c.loop-i.i stops (c.loop-i.invariant ds r all stops whole) (subst (λ bs. c.loop-i.i < length bs) whole c.loop-i-test.true)
    (subst (λ bs. is_numeric (get_or bs c.loop-i.i 0) ≡ true) whole (sym c.is_numeric.ensures ∙ c.if-not-is_numeric.false))

pub returns-then-not-is_numeric-clause-front : goal.returns-then-not-is_numeric-clause-front
returns-then-not-is_numeric-clause-front c = λ ds r all stops whole.
    ends_there ds r c.loop-i.i all (c.loop-i.invariant ds r all stops whole)
    (subst (λ bs. is_numeric (get_or bs c.loop-i.i 0) ≡ false) whole (sym c.is_numeric.ensures ∙ c.if-not-is_numeric.true))

pub returns-clause-front : goal.returns-clause-front
returns-clause-front c = λ ds r all stops whole.
    let past = c.loop-i.invariant ds r all stops whole in
    let size = ap length whole ∙ length-append ds r in
    omega arith
