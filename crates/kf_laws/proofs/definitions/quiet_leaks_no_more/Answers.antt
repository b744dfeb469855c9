use Rattle.kf_laws.proofs.CoveringAll.{quiet_no_better}
use Rattle.kf_laws.proofs.OneAnswer.{one_cleared}
use Rattle.kf_laws.proofs.definitions.quiet_leaks_no_more.Goals as goal

pub returns : goal.returns
returns c =
    let program = c.grammar.ensures in
    let refused = c.refusals.ensures in
    let typed = c.type_laws.ensures in
    quiet_no_better (one_cleared c.one_reading.ensures program.one refused.both refused.refusal typed.one typed.typed)
    c.reasoned_refusals.ensures.tasks c.quiet_laws.ensures.no_more
