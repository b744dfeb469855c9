use Rattle.kf_gain.proofs.Adding.{some_average, one_average}
use Rattle.kf_gain.proofs.law.average_laws.Goals as goal

pub returns-clause-some : goal.returns-clause-some
returns-clause-some c = some_average

pub returns-clause-one : goal.returns-clause-one
returns-clause-one c = one_average
