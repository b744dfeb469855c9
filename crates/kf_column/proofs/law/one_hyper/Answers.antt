use Rattle.kf_column.proofs.AtMostOne.{at_most_one}
use Rattle.kf_column.proofs.SomeHyper.{some_hyper}
use Rattle.kf_column.proofs.law.one_hyper.Goals as goal

pub returns-clause-some : goal.returns-clause-some
returns-clause-some c = some_hyper

pub returns-clause-at_most_one : goal.returns-clause-at_most_one
returns-clause-at_most_one c = at_most_one
