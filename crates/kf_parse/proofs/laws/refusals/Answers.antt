use Rattle.kf_parse.proofs.EitherWay.{either}
use Rattle.kf_parse.proofs.OneCause.{not_both, one_refusal}
use Rattle.kf_parse.proofs.laws.refusals.Goals as goal

pub returns : goal.returns
returns c = record { either = either; both = not_both; refusal = one_refusal }
