use Rattle.kf_laws.proofs.ClearedPrograms.{are_clear}
use Rattle.kf_laws.proofs.OneAnswer.{one_cleared}
use Rattle.kf_laws.proofs.ProperHypers.{are_proper}
use Rattle.kf_laws.proofs.StructuralVerdicts.{channel_is_printed, verdicts_are_structural}
use Rattle.kf_laws.proofs.definitions.structural_verdicts.Goals as goal

pub returns : goal.returns
returns c =
    let program = c.grammar.ensures in
    let refused = c.refusals.ensures in
    let typed = c.type_laws.ensures in
    let joint = c.joint_laws.ensures in
    let run = c.run_laws.ensures in
    let cleared = one_cleared c.one_reading.ensures program.one refused.both refused.refusal typed.one typed.typed in
    let reasoned = c.reasoned_refusals.ensures.tasks in
    record {
      printed = channel_is_printed cleared reasoned joint.one_rows;
      structural =
          verdicts_are_structural cleared reasoned (are_clear c.full_laws.ensures.built typed.checked typed.sizes program.built) (are_proper joint.whole run.positive run.least)
          c.structural_laws.ensures.structural;
    }
