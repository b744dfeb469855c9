use Rattle.kf_meaning.proofs.FirstFaults.{block_fault_is_first, first_fault_of_program, first_fault_of_runs, no_fault_before}
use Rattle.kf_meaning.proofs.laws.first_faults.Goals as goal

pub returns : goal.returns
returns c = record {
  block = block_fault_is_first;
  program = first_fault_of_program;
  none = no_fault_before;
  runs = first_fault_of_runs c.run_laws.ensures.program c.run_laws.ensures.fault;
}
