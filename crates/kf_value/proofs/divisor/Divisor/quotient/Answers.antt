use Rattle.kf_value.proofs.Dividing.{quotient_by_shifts}
use Rattle.kf_value.proofs.divisor.Divisor.quotient.Goals as goal

pub overflow_shr-result : goal.overflow_shr-result
overflow_shr-result c = c.args.self.now.short

pub returns : goal.returns
returns c =
    let d = c.args.self.now in
    rw (c.from.ensures, c.from-2.ensures) (quotient_by_shifts c.args.n d.divisor d.factor d.shift c.requires d.some d.reaches d.above d.near)
