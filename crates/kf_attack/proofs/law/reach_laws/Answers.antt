use Rattle.kf_attack.proofs.MoreTries.{more_tries, some_reach, one_reach}
use Rattle.kf_attack.proofs.law.reach_laws.Goals as goal

pub returns-clause-more : goal.returns-clause-more
returns-clause-more c = more_tries

pub returns-clause-some : goal.returns-clause-some
returns-clause-some c = some_reach

pub returns-clause-one : goal.returns-clause-one
returns-clause-one c = λ scale num den inners r s some. one_reach scale num den inners r s
