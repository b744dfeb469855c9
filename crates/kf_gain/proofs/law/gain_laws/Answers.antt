use Rattle.kf_gain.proofs.Adding.{pairs}
use Rattle.kf_gain.proofs.Losing.{nothing_is_lost, bayes_is_bounded}
use Rattle.kf_gain.proofs.Reports.{some_report, one_report, width_bounds}
use Rattle.kf_gain.proofs.law.gain_laws.Goals as goal

pub returns-clause-some : goal.returns-clause-some
returns-clause-some c = some_report

pub returns-clause-one : goal.returns-clause-one
returns-clause-one c = one_report

pub returns-clause-width : goal.returns-clause-width
returns-clause-width c = width_bounds

pub returns-clause-nothing_is_lost : goal.returns-clause-nothing_is_lost
returns-clause-nothing_is_lost c = λ size scale g inners y z shape. nothing_is_lost inners y z g (pairs size scale inners shape)

pub returns-clause-bayes : goal.returns-clause-bayes
returns-clause-bayes c = λ size scale inners y z shape. bayes_is_bounded inners y z
