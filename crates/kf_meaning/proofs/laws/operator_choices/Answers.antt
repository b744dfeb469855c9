use Rattle.kf_meaning.proofs.Operated.{and_skips, cond_skips, first_is_asked, operated_is_applied, or_skips}
use Rattle.kf_meaning.proofs.laws.operator_choices.Goals as goal

pub returns : goal.returns
returns c = record {
  values = operated_is_applied;
  or_skips = or_skips;
  and_skips = and_skips;
  cond_skips = cond_skips;
  first = first_is_asked;
}
