use Rattle.kf_simplex.proofs.EndsOnce.{one_answer}
use Rattle.kf_simplex.proofs.laws.one_answer.Goals as goal

pub returns : goal.returns
returns c = one_answer
