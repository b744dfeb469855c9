use Rattle.kf_lex.proofs.SameKind.{AreOperatorsReserved-holds}
use Rattle.kf_lex.proofs.law.reserved_operators.Goals as goal

pub returns : goal.returns
returns c = AreOperatorsReserved-holds
