use Rattle.kf_silent.proofs.Averages.{one_silent, same_average, some_silent}
use Rattle.kf_silent.proofs.laws.silent_hypers.Goals as goal

pub returns : goal.returns
returns c = record { some = some_silent c.joint_laws.ensures.hyper; only = one_silent c.joint_laws.ensures.one_hyper; average = same_average }
