use Rattle.kf_column.proofs.Proportions.{proportional_all, all_proportional}
use Rattle.kf_column.proofs.law.proportional_means.Goals as goal

pub returns : goal.returns
returns c = λ u v. (proportional_all u v, all_proportional u v)
