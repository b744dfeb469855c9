use Rattle.std.proofs.Common.{◌≡◌, sym, ◌∙◌, subst}
use Rattle.kf_frac.specs.Divisors.{gcd_of}
use Rattle.kf_frac.proofs.CommonDivisors.{gcd_swap}
use Rattle.kf_capacity.proofs.Dividing.{with_zero, of_one}
use Rattle.kf_capacity.proofs.divided.common.Goals as goal
use Rattle.kf_capacity.proofs.divided.common.Goals.{then-divisor-eq1-via-then-divisor-eq1, then-divisor-eq1-via-else-divisor-eq1+then-weight-eq0}

pub returns-then-divisor-eq1 : goal.returns-then-divisor-eq1
returns-then-divisor-eq1 c =
    let d = c.args.divisor in
    elim c.then-divisor-eq1.branch [
      | then-divisor-eq1-via-then-divisor-eq1 w ↦ subst (λ n. n ≡ gcd_of n c.args.weight) (sym w.if-divisor-eq1.true) (of_one c.args.weight)
      | then-divisor-eq1-via-else-divisor-eq1+then-weight-eq0 w ↦ subst (λ n. d ≡ gcd_of d n) (sym w.if-weight-eq0.true) (with_zero d)
    ]

pub returns : goal.returns
returns c = c.gcd.ensures ∙ gcd_swap c.args.weight c.args.divisor
