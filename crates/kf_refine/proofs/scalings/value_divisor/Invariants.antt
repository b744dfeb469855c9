use Rattle.kf_refine.specs.Built.{IsDivisor}
use Rattle.kf_refine.specs.Refinements.{joint}
use Rattle.kf_refine.specs.Views.{hyper_tree}
use Rattle.kf_refine.proofs.scalings.value_divisor.Given as goal

-- the divisor of the first i weights
abbrev pub invariant-loop-i : goal.invariant-loop-i
invariant-loop-i l = IsDivisor (joint (hyper_tree l.h) l.x) l.i l.common
