use Rattle.kf_order.proofs.Structural.{is_structural}
use Rattle.kf_order.proofs.laws.structural_laws.Goals as goal

pub returns : goal.returns
returns c = record { structural = is_structural }
