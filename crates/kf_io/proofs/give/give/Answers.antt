use Rattle.std.proofs.Common.{arith, ap, ◌∙◌, ◌≡◌, ◌+◌, ◌-◌, take, drop, length-drop, length-take, ℕ}
use Rattle.kf_io.proofs.Giving.{gives_front}
use Rattle.kf_io.proofs.give.give.Goals as goal

pub returns-clause-given : goal.returns-clause-given
returns-clause-given c =
    let bytes = c.args.bytes.now in
    let count : c.args.at + c.min-count.result - c.args.at ≡ c.min-count.result = omega arith in
    gives_front bytes c.args.at c.min-count.result c.copy_from_slice.new.self (drop c.min-count.result c.args.buf.now)
    (c.copy_from_slice.ensures.after ∙ ap (λ n. take n (drop c.args.at bytes)) count)
    (omega (arith, length-drop {A = ℕ}))
    (λ zero. omega (arith, length-drop {A = ℕ}, length-take {A = ℕ}))
