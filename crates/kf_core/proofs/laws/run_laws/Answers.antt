use Rattle.kf_core.proofs.FirstFault.{least_store_faults}
use Rattle.kf_core.proofs.SupportAgrees.{pass_agrees, block_agrees, program_agrees, fault_is_of_a_run}
use Rattle.kf_core.proofs.RunsChain.{runs_chain}
use Rattle.kf_core.proofs.Scales.{common_scale_is_least, scales_positive}
use Rattle.kf_core.proofs.laws.run_laws.Goals as goal

pub returns : goal.returns
returns c = record {
  statement = pass_agrees;
  block = block_agrees;
  program = program_agrees;
  fault = fault_is_of_a_run;
  first = least_store_faults;
  sequence = runs_chain;
  positive = scales_positive c.choice_laws.ensures.shares;
  least = common_scale_is_least;
}
