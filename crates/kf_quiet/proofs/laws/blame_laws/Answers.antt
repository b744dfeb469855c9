use Rattle.kf_quiet.proofs.AllBlames.{only_one_blames, some_blames, some_quiet}
use Rattle.kf_quiet.proofs.laws.blame_laws.Goals as goal

pub returns : goal.returns
returns c = record {
  quiet = some_quiet c.joint_laws.ensures.hyper;
  some = some_blames c.joint_laws.ensures.hyper c.gain_laws.ensures.some;
  only = only_one_blames c.joint_laws.ensures.one_hyper c.gain_laws.ensures.one;
}
