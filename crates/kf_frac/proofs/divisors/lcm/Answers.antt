use Rattle.std.proofs.Common.{◌≡◌, ◌≤◌, ◌*◌, ◌/◌, ℕ, ap, arith, sym, ◌∙◌}
use Rattle.kf_frac.specs.Divisors.{gcd_of, lcm_of}
use Rattle.kf_frac.specs.Fractions.{limit}
use Rattle.kf_frac.proofs.CommonDivisors.{gcd_positive}
use Rattle.kf_frac.proofs.CommonMultiples.{lcm_known, lcm_known_is}
use Rattle.kf_frac.proofs.divisors.lcm.Goals as goal

-- the quotient times b
product_is : (a b g quotient : ℕ) → g ≡ gcd_of a b → 1 ≤ a → 1 ≤ b → quotient ≡ a / g → lcm_of a b ≡ quotient * b
product_is a b g quotient is p q e = lcm_known a b g is p q ∙ ap (λ (n : ℕ). n * b) (sym e)

pub quotient-requires : goal.quotient-requires
quotient-requires c = omega (arith, gcd_positive c.args.a c.args.b, c.gcd.ensures)

pub returns-in-Some-clause-exact : goal.returns-in-Some-clause-exact
returns-in-Some-clause-exact c =
    let e = product_is c.args.a c.args.b c.gcd.result c.quotient.result c.gcd.ensures c.requires.a c.requires.b c.quotient.ensures in
    (omega (arith, e, c.in-Some.ensures), c.in-Some.ensures.1 ∙ sym e)

pub returns-in-Some-clause-least : goal.returns-in-Some-clause-least
returns-in-Some-clause-least c =
    let e : c.in-Some.multiple ≡ c.args.a / c.gcd.result * c.args.b = c.in-Some.ensures.1 ∙ ap (λ (n : ℕ). n * c.args.b) c.quotient.ensures in
    lcm_known_is c.args.a c.args.b c.gcd.result c.in-Some.multiple c.gcd.ensures c.requires.a c.requires.b e

pub returns-in_default-clause-exact : goal.returns-in_default-clause-exact
returns-in_default-clause-exact c =
    λ (h : lcm_of c.args.a c.args.b ≤ limit).
    let e = product_is c.args.a c.args.b c.gcd.result c.quotient.result c.gcd.ensures c.requires.a c.requires.b c.quotient.ensures in
    omega (arith, e, h, c.in-Some.ensures)

pub returns-in_default-2-clause-exact : goal.returns-in_default-2-clause-exact
returns-in_default-2-clause-exact c =
    λ (h : lcm_of c.args.a c.args.b ≤ limit).
    let e = product_is c.args.a c.args.b c.gcd.result c.quotient.result c.gcd.ensures c.requires.a c.requires.b c.quotient.ensures in
    c.in_default.ensures (omega (arith, e, h))
