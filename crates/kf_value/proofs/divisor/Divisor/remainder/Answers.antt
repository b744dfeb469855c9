use Rattle.std.proofs.Common.{arith}
use Rattle.std.proofs.lemmas.Nat.{div-add-mod'}
use Rattle.kf_value.proofs.divisor.Divisor.remainder.Goals as goal

pub overflow_mul-result : goal.overflow_mul-result
overflow_mul-result c = rw c.quotient.ensures (let whole = div-add-mod' c.args.n c.args.self.now.divisor in let few = c.requires in omega arith)

pub overflow_sub-result : goal.overflow_sub-result
overflow_sub-result c = rw c.quotient.ensures (let whole = div-add-mod' c.args.n c.args.self.now.divisor in omega arith)

pub returns : goal.returns
returns c = rw c.quotient.ensures (let whole = div-add-mod' c.args.n c.args.self.now.divisor in omega arith)
