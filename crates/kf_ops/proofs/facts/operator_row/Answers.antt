use Rattle.kf_ops.proofs.Applying.{row_at}
use Rattle.kf_ops.proofs.facts.operator_row.Goals as goal

pub returns : goal.returns
returns c = row_at c.operators.result c.place_of.result _ _ c.operators.ensures c.place_of.ensures.exact c.place_of.ensures.within
