use Rattle.std.proofs.Common.{◌≤◌, sym, subst, arith}
use Rattle.kf_frac.specs.Divisors.{lcm_of}
use Rattle.kf_frac.specs.Fractions.{limit}
use Rattle.kf_capacity.specs.declared.divided.DividedSecret.{DividedSecret}
use Rattle.kf_capacity.proofs.OwnDenominators.{own_wide}
use Rattle.kf_capacity.proofs.multiples.multiple_of.Goals as goal

pub returns-in_err-multiple-clause-exact : goal.returns-in_err-multiple-clause-exact
returns-in_err-multiple-clause-exact c =
    let d : DividedSecret = record { value = 0; whole = 0; divisor = 0 } in
    let m = c.loop-secret.multiple in
    rw c.from_residual.ensures (λ small.
    let here = own_wide c.args.secrets.now c.requires c.loop-secret.secret-index m d (omega (arith, c.loop-secret-test.true)) limit
    c.loop-secret.invariant.some (subst (λ n. n ≤ limit) (sym c.loop-secret.invariant.same) small) in
    c.in_err-multiple.ensures.exact (subst (λ n. lcm_of n m ≤ limit) (sym c.quotient.ensures) here))
