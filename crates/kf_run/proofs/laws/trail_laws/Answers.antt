use Rattle.kf_run.proofs.Trails.{some_trail, one_trail}
use Rattle.kf_run.proofs.laws.trail_laws.Goals as goal

pub returns : goal.returns
returns c = record {
  some = some_trail c.joint_laws.ensures.rows c.one_hyper.ensures.some;
  only = one_trail c.joint_laws.ensures.one_rows c.one_hyper.ensures.at_most_one;
}
