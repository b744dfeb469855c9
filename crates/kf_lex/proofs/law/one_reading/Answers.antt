use Rattle.kf_lex.proofs.EachSource.{IsOneReading-holds}
use Rattle.kf_lex.proofs.law.one_reading.Goals as goal

pub returns : goal.returns
returns c = IsOneReading-holds
