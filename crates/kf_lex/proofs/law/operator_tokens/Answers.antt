use Rattle.kf_lex.proofs.Operators.{are_operator_tokens}
use Rattle.kf_lex.proofs.law.operator_tokens.Goals as goal

pub returns : goal.returns
returns c = are_operator_tokens
