use Rattle.kf_refine.proofs.Coefficients.{ones_narrow}
use Rattle.kf_refine.proofs.equations.sum_equation.Goals as goal

pub invariant_of-result-clause-narrow : goal.invariant_of-result-clause-narrow
invariant_of-result-clause-narrow c = ones_narrow c.args.columns c.args.p c.in_ok-coefs.coefs.entries.items c.in_ok-coefs.ensures.numbers
