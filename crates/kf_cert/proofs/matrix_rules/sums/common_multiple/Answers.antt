use Rattle.std.proofs.Common.{◌≤◌, sym, subst}
use Rattle.kf_frac.specs.Divisors.{lcm_of}
use Rattle.kf_frac.specs.Fractions.{limit}
use Rattle.kf_cert.proofs.Multiples.{entry_wide}
use Rattle.kf_cert.proofs.matrix_rules.sums.common_multiple.Goals as goal

pub returns-in_err-multiple-clause-exact : goal.returns-in_err-multiple-clause-exact
returns-in_err-multiple-clause-exact c =
    rw c.from_residual.ensures (λ small.
    let here = entry_wide c.args.entries.now c.loop-entry.entry-index c.loop-entry.multiple c.entry-item.result c.loop-entry-test.true c.entry-item.is limit c.loop-entry.invariant.some
    (subst (λ n. n ≤ limit) (sym c.loop-entry.invariant.same) small) in
    c.in_err-multiple.ensures.exact (subst (λ d. lcm_of d c.loop-entry.multiple ≤ limit) (sym c.den.ensures) here))
