use Rattle.std.proofs.Common.{rules, arith, ◌≡◌, ◌∙◌, ap, length, length-append, ℕ}
use Rattle.kf_io.proofs.reading.read_whole.Goals as goal

pub returns-then-count-eq0-clause-told : goal.returns-then-count-eq0-clause-told
returns-then-count-eq0-clause-told g c told tells =
    let ends : c.in_ok-count.count ≡ 0 = search rules in
    c.in_ok-count.ensures.whole ends told (c.pieces.invariant.unchanged ∙ tells) (c.pieces.invariant.told told tells)

pub returns-then-count-eq0-clause-complete : goal.returns-then-count-eq0-clause-complete
returns-then-count-eq0-clause-complete g c told tells quiet =
    let whole = returns-then-count-eq0-clause-told g c told tells in
    (whole, omega (arith, ap length whole, c.in_ok-count.ensures.grows))

pub returns-clause-long : goal.returns-clause-long
returns-clause-long g c is told tells =
    let size = ap length (c.pieces.invariant.told told tells) in
    omega (arith, size, length-append {A = ℕ})

pub returns-clause-complete : goal.returns-clause-complete
returns-clause-complete g c told tells quiet =
    let size = ap length (c.pieces.invariant.told told tells) in
    omega (arith, size, length-append {A = ℕ})
