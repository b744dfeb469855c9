use Rattle.kf_hyper.specs.Views.{inners_of}
use Rattle.kf_attack.proofs.Inners.{Gathers}
use Rattle.kf_attack.proofs.tries.gains_of.Given as goal

abbrev pub invariant-loop-i : goal.invariant-loop-i
invariant-loop-i l = Gathers (inners_of l.h) l.i l.gains.items
