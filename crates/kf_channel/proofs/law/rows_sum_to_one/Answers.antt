use Rattle.kf_channel.proofs.Parts.{sum_to_one}
use Rattle.kf_channel.proofs.law.rows_sum_to_one.Goals as goal

pub returns : goal.returns
returns c = sum_to_one
