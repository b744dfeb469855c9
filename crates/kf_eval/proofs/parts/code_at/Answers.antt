use Rattle.kf_eval.proofs.Holding.{code_found}
use Rattle.kf_eval.proofs.parts.code_at.Goals as goal

pub returns : goal.returns
returns c = code_found c.args.row c.operator_at.result c.operator_at.ensures c.requires
