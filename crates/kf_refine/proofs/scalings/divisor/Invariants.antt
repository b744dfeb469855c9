use Rattle.kf_refine.specs.Built.{IsDivisorOf}
use Rattle.kf_refine.specs.Views.{hyper_tree}
use Rattle.kf_refine.proofs.scalings.divisor.Given as goal

-- the divisor of the weights of the first k values
abbrev pub invariant-loop-k : goal.invariant-loop-k
invariant-loop-k l = IsDivisorOf (hyper_tree l.h) l.values l.k l.common
