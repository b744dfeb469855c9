use Rattle.kf_run.proofs.Declarations.{AreDeclared}
use Rattle.kf_run.proofs.first_columns.begin.Given as goal

abbrev pub invariant-loop-i : goal.invariant-loop-i
invariant-loop-i l = AreDeclared l.program l.turns l.i l.now
