use Rattle.std.proofs.Common.{◌≡◌, ◌++◌, drop}
use Rattle.kf_refine.specs.Built.{spread}
use Rattle.kf_refine.proofs.equations.value_coefficients.Given as goal

-- what is written, and what is left
abbrev pub invariant-loop-weight : goal.invariant-loop-weight
invariant-loop-weight l =
    l.entries.items ++ spread l.columns l.j (drop l.weight-index l.weights.entries.items) ≡ spread l.columns l.j l.weights.entries.items
