use Rattle.kf_core.proofs.Choosing.{choices_are_shares, choices_keep_kinds}
use Rattle.kf_core.proofs.laws.choice_laws.Goals as goal

pub returns : goal.returns
returns c = record {
  shares = choices_are_shares;
  kinds = choices_keep_kinds c.row_laws.ensures.kinds;
}
