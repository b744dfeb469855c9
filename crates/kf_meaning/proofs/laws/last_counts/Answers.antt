use Rattle.kf_meaning.proofs.LastCounts.{last_count_bounds, last_count_is_met}
use Rattle.kf_meaning.proofs.laws.last_counts.Goals as goal

pub returns : goal.returns
returns c = record {
  bounds = last_count_bounds c.one_hyper.ensures.some c.joint_laws.ensures.one_rows c.joint_laws.ensures.one_hyper c.choice_laws.ensures.shares
      c.run_laws.ensures.program c.run_laws.ensures.sequence c.run_laws.ensures.positive c.run_laws.ensures.least;
  met = last_count_is_met c.one_hyper.ensures.some c.joint_laws.ensures.one_rows c.joint_laws.ensures.one_hyper c.choice_laws.ensures.shares
      c.run_laws.ensures.program c.run_laws.ensures.sequence c.run_laws.ensures.positive c.run_laws.ensures.least c.projection_laws.ensures;
}
