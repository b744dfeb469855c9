use Rattle.std.proofs.Common.{refl}
use Rattle.kf_check.proofs.Left.{passed}
use Rattle.kf_check.proofs.targets.push_item.Goals as goal

pub returns-in_err-push : goal.returns-in_err-push
returns-in_err-push c = rw (passed c.from_residual.result _ c.from_residual.ensures.1) (record { items = tt; copies = tt; slots = tt; stores = tt; memory = refl })

pub returns-in_err-push-2 : goal.returns-in_err-push-2
returns-in_err-push-2 c = rw (passed c.from_residual-in_err-push-2.result _ c.from_residual-in_err-push-2.ensures.1) (record { items = tt; copies = tt; slots = tt; stores = tt; memory = refl })

pub returns : goal.returns
returns c = record {
  items = c.in_ok-push.ensures.items;
  copies = c.in_ok-push_copy.ensures.pushed;
  slots = c.in_ok-push-2.ensures.items;
  stores = refl;
  memory = tt;
}
