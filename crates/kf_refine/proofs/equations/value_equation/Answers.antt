use Rattle.std.proofs.Common.{ℕ, ◌∙◌, ap}
use Rattle.kf_refine.specs.Built.{spread}
use Rattle.kf_refine.specs.Refinements.{count}
use Rattle.kf_refine.specs.Views.{hyper_tree}
use Rattle.kf_refine.proofs.Coefficients.{new_narrow}
use Rattle.kf_refine.proofs.equations.value_equation.Goals as goal

pub invariant_of-result-clause-narrow : goal.invariant_of-result-clause-narrow
invariant_of-result-clause-narrow c =
    let weights = c.args.weights.now.entries.items in
    new_narrow (count (hyper_tree c.args.b.now)) c.args.j c.requires.inner weights c.in_ok-coefs.coefs.entries.items
    (c.in_ok-coefs.ensures ∙ ap (λ (n : ℕ). spread n c.args.j weights) c.count.ensures) c.requires.narrow
