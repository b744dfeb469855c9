use Rattle.std.proofs.Common.{◌≡◌, ◌*◌, ◌∙◌, ap, map, arith}
use Rattle.kf_frac.specs.Divisors.{common_multiple as multiple_of}
use Rattle.kf_cert.specs.Rows.{dens}
use Rattle.kf_cert.specs.Views.{entry_tree}
use Rattle.kf_cert.proofs.Multiples.{denominator_is, at_least_itself}
use Rattle.kf_cert.proofs.matrix_rules.sums.denominator_within.Goals as goal

pub returns-in_err-over-clause-exact : goal.returns-in_err-over-clause-exact
returns-in_err-over-clause-exact c =
    rw c.from_residual.ensures (λ small.
    c.in_err-over.ensures.exact (omega (arith, small, denominator_is c.args.entries.now, at_least_itself c.args.scale (multiple_of (dens (map entry_tree c.args.entries.now))) c.requires)))

pub returns-in-Some-clause-exact : goal.returns-in-Some-clause-exact
returns-in-Some-clause-exact c =
    let same : c.in_ok-over.over ≡ multiple_of (dens (map entry_tree c.args.entries.now)) = c.in_ok-over.ensures.exact.1 ∙ denominator_is c.args.entries.now in
    (omega (arith, c.in-Some.ensures.1, c.if-product-le-LIMIT.true, ap (λ n. c.args.scale * n) same), same)

pub returns-in_default-clause-exact : goal.returns-in_default-clause-exact
returns-in_default-clause-exact c =
    λ small.
    let same : c.in_ok-over.over ≡ multiple_of (dens (map entry_tree c.args.entries.now)) = c.in_ok-over.ensures.exact.1 ∙ denominator_is c.args.entries.now in
    omega (arith, small, c.in-Some.ensures.1, c.if-product-le-LIMIT.false, ap (λ n. c.args.scale * n) same)

pub returns-in_default-2-clause-exact : goal.returns-in_default-2-clause-exact
returns-in_default-2-clause-exact c =
    λ small.
    let same : c.in_ok-over.over ≡ multiple_of (dens (map entry_tree c.args.entries.now)) = c.in_ok-over.ensures.exact.1 ∙ denominator_is c.args.entries.now in
    c.in_default.ensures (omega (arith, small, ap (λ n. c.args.scale * n) same))
