use Rattle.std.proofs.Common.{sym, ap, ◌∙◌}
use Rattle.kf_value.specs.Values.{order}
use Rattle.kf_value.proofs.Ascending.{length-values, values_ascend}
use Rattle.kf_value.proofs.Deciding.{sets_decided}
use Rattle.kf_value.proofs.Orders.{order_total, order-itself, same}
use Rattle.kf_value.proofs.laws.order_laws.Goals as goal

pub returns : goal.returns
returns c = record {
  total = order_total;
  equal = λ v w. (same v w, λ e. ap (order v) (sym e) ∙ order-itself v);
  sets = sets_decided;
  ascending = values_ascend;
  counted = length-values;
}
