use Rattle.kf_simplex.proofs.OneResult.{one_end, one_result}
use Rattle.kf_simplex.proofs.laws.one_result.Goals as goal

pub returns-clause-ends : goal.returns-clause-ends
returns-clause-ends c = one_end

pub returns-clause-answer : goal.returns-clause-answer
returns-clause-answer c = one_result
