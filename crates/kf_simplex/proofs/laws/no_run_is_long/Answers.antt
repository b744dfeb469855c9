use Rattle.kf_simplex.proofs.Counting.{no_run_is_long}
use Rattle.kf_simplex.proofs.laws.no_run_is_long.Goals as goal

pub returns : goal.returns
returns c = no_run_is_long
