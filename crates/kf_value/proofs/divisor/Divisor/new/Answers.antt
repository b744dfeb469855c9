use Rattle.std.proofs.Common.{arith}
use Rattle.kf_value.proofs.Dividing.{factored}
use Rattle.kf_value.proofs.divisor.Divisor.new.Goals as goal

pub overflow_cast-factor-2 : goal.overflow_cast-factor-2
overflow_cast-factor-2 c =
    let fits = (factored c.args.divisor c.requires.some c.requires.few).fits in
    rw c.from.ensures (omega arith)

pub overflow_add-factor-2 : goal.overflow_add-factor-2
overflow_add-factor-2 c =
    let fits = (factored c.args.divisor c.requires.some c.requires.few).fits in
    rw c.from.ensures (omega arith)

pub invariant_of-result : goal.invariant_of-result
invariant_of-result c =
    let made = factored c.args.divisor c.requires.some c.requires.few in
    rw c.from.ensures (record { some = c.requires.some; short = made.short; reaches = made.reaches; above = made.above; near = made.near })
