use Rattle.kf_simplex.proofs.Entries.{IsMade}
use Rattle.kf_refine.specs.Built.{whole}
use Rattle.kf_refine.specs.Views.{hyper_tree}
use Rattle.kf_refine.proofs.Coefficients.{IsWeight}
use Rattle.kf_refine.proofs.equations.value_weights.Given as goal

-- the weights with the first i inners are there
abbrev pub invariant-loop-i : goal.invariant-loop-i
invariant-loop-i l = IsMade (IsWeight (whole (hyper_tree l.a) l.scaling.a_divisor l.scaling.a_factor l.x)) l.i l.entries.items
