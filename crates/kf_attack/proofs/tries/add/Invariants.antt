use Rattle.kf_attack.proofs.Positions.{Adds}
use Rattle.kf_attack.proofs.tries.add.Given as goal

abbrev pub invariant-loop-position : goal.invariant-loop-position
invariant-loop-position l = Adds l.multiple l.position l.entries l.initial.gains.items l.gains.items
