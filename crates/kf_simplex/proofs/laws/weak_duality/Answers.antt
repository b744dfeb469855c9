use Rattle.kf_simplex.proofs.Duality.{weak_duality}
use Rattle.kf_simplex.proofs.laws.weak_duality.Goals as goal

pub returns : goal.returns
returns c = weak_duality
