use Rattle.kf_simplex.proofs.EveryRunEnds.{every_run_ends}
use Rattle.kf_simplex.proofs.SomeAnswer.{some_answer}
use Rattle.kf_simplex.proofs.laws.every_run_ends.Goals as goal

pub returns-clause-run : goal.returns-clause-run
returns-clause-run c = every_run_ends

pub returns-clause-answer : goal.returns-clause-answer
returns-clause-answer c = some_answer
