use Rattle.kf_refine.proofs.OneVerdict.{one_verdict, enough_pivots}
use Rattle.kf_refine.proofs.SomeVerdict.{some_verdict}
use Rattle.kf_refine.proofs.laws.one_verdict.Goals as goal

pub returns-clause-some : goal.returns-clause-some
returns-clause-some c = some_verdict c.every_run_ends.ensures.answer

pub returns-clause-one : goal.returns-clause-one
returns-clause-one c = one_verdict c.one_result.ensures.answer

pub returns-clause-enough : goal.returns-clause-enough
returns-clause-enough c = enough_pivots c.no_run_is_long.ensures
