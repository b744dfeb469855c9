use Rattle.kf_order.proofs.Leaking.{capacity_is_leaked, leakage_is_bounded}
use Rattle.kf_order.proofs.laws.leakage_laws.Goals as goal

pub returns : goal.returns
returns c = record { bounded = leakage_is_bounded; met = capacity_is_leaked }
