use Rattle.kf_simplex.proofs.RunFacts.{measure_falls, no_run_returns}
use Rattle.kf_simplex.proofs.laws.no_run_returns.Goals as goal

pub returns-clause-bases : goal.returns-clause-bases
returns-clause-bases c = no_run_returns

pub returns-clause-falls : goal.returns-clause-falls
returns-clause-falls c = measure_falls
