use Rattle.kf_core.proofs.HypersFound.{hypers_exist, hypers_are_one}
use Rattle.kf_core.proofs.OneTable.{one_table}
use Rattle.kf_core.proofs.RowsFound.{rows_exist}
use Rattle.kf_core.proofs.WholeJoint.{joint_is_whole}
use Rattle.kf_core.proofs.laws.joint_laws.Goals as goal

pub returns : goal.returns
returns c = record {
  whole = joint_is_whole c.choice_laws.ensures.shares c.run_laws.ensures.program c.run_laws.ensures.positive c.run_laws.ensures.least;
  rows = rows_exist;
  one_rows = one_table;
  hyper = hypers_exist c.one_hyper.ensures.some;
  one_hyper = hypers_are_one c.one_hyper.ensures.at_most_one;
}
