use Rattle.kf_order.proofs.Cascading.{cascade_leaks_no_more, some_seen}
use Rattle.kf_order.proofs.HyperWorth.{hyper_is_worth_columns}
use Rattle.kf_order.proofs.laws.cascade_laws.Goals as goal

pub returns : goal.returns
returns c = record { hyper = hyper_is_worth_columns; seen = some_seen; no_more = cascade_leaks_no_more }
