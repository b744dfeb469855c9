use Rattle.kf_laws.proofs.LeakBounds.{capacity_bounds}
use Rattle.kf_laws.proofs.OneAnswer.{one_cleared}
use Rattle.kf_laws.proofs.definitions.capacity_bounds_leaks.Goals as goal

pub returns : goal.returns
returns c =
    let program = c.grammar.ensures in
    let refused = c.refusals.ensures in
    let typed = c.type_laws.ensures in
    let leakage = c.leakage_laws.ensures in
    capacity_bounds (one_cleared c.one_reading.ensures program.one refused.both refused.refusal typed.one typed.typed) c.reasoned_refusals.ensures.tasks leakage.bounded leakage.met
