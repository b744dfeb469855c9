use Rattle.kf_lex.proofs.ReservedTexts.{have_one_text}
use Rattle.kf_lex.proofs.law.one_text.Goals as goal

pub returns : goal.returns
returns c = have_one_text
