use Rattle.kf_cert.proofs.Marking.{one_mark, some_mark}
use Rattle.kf_cert.proofs.laws.mark_laws.Goals as goal

pub returns-clause-some : goal.returns-clause-some
returns-clause-some c = some_mark

pub returns-clause-one : goal.returns-clause-one
returns-clause-one c = one_mark
