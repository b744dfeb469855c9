use Rattle.kf_parse.proofs.OperatorTokens.{are_told, have_tokens}
use Rattle.kf_parse.proofs.laws.operator_tokens.Goals as goal

pub returns : goal.returns
returns c = record { told = are_told; each = have_tokens }
