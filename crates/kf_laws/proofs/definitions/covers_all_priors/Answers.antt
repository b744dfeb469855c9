use Rattle.kf_laws.proofs.CoveringAll.{covers_all, no_is_separated}
use Rattle.kf_laws.proofs.OneAnswer.{one_cleared}
use Rattle.kf_laws.proofs.definitions.covers_all_priors.Goals as goal

pub returns : goal.returns
returns c =
    let program = c.grammar.ensures in
    let refused = c.refusals.ensures in
    let typed = c.type_laws.ensures in
    let cleared = one_cleared c.one_reading.ensures program.one refused.both refused.refusal typed.one typed.typed in
    let reasoned = c.reasoned_refusals.ensures.tasks in
    record { all = covers_all cleared reasoned program.built c.prior_laws.ensures.carries; separated = no_is_separated cleared reasoned program.built c.prior_laws.ensures.separates }
