use Rattle.kf_capacity.proofs.Worth.{capacity_bounds, capacity_is_met}
use Rattle.kf_capacity.proofs.law.capacity_laws.Goals as goal

pub returns-clause-bounds : goal.returns-clause-bounds
returns-clause-bounds c = capacity_bounds

pub returns-clause-met : goal.returns-clause-met
returns-clause-met c = capacity_is_met
