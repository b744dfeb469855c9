use Rattle.kf_support.proofs.Declaring.{DeclsSoFar}
use Rattle.kf_support.proofs.passes.pass_program.Given as goal

abbrev pub invariant-loop-i : goal.invariant-loop-i
invariant-loop-i l = DeclsSoFar l.program l.turns l.i l.states.items
