use Rattle.kf_traces.proofs.Telling.{traces_join, traces_tell}
use Rattle.kf_traces.proofs.laws.traced_laws.Goals as goal

pub returns : goal.returns
returns c = record {
  tell = traces_tell c.choice_laws.ensures.shares c.run_laws.ensures.program c.run_laws.ensures.positive c.run_laws.ensures.least;
  joint = traces_join c.choice_laws.ensures.shares c.run_laws.ensures.program c.run_laws.ensures.positive c.run_laws.ensures.least;
}
