use Rattle.kf_attack.proofs.Shown.{shown_is_best, worths_sum, some_attacks, one_attacks}
use Rattle.kf_attack.proofs.law.attack_laws.Goals as goal

pub returns-clause-best : goal.returns-clause-best
returns-clause-best c = shown_is_best

pub returns-clause-sum : goal.returns-clause-sum
returns-clause-sum c = worths_sum

pub returns-clause-some : goal.returns-clause-some
returns-clause-some c = some_attacks

pub returns-clause-one : goal.returns-clause-one
returns-clause-one c = one_attacks
