use Rattle.kf_core.proofs.Keeping.{keeps}
use Rattle.kf_core.proofs.SetMembers.{sets_hold_members}
use Rattle.kf_core.proofs.StoreKinds.{stores_have_kinds}
use Rattle.kf_core.proofs.laws.evaluation_laws.Goals as goal

pub returns : goal.returns
returns c = record {
  stores = stores_have_kinds;
  kinds = λ ks s x k are kinded. keeps c.row_laws.ensures.kinds ks s are kinded;
  members = sets_hold_members;
}
