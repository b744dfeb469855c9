use Rattle.kf_laws.specs.Refusals.{RefusalsAreReasoned}
use Rattle.kf_laws.proofs.OneAnswer.{one_typed}
use Rattle.kf_laws.proofs.RunRefusals.{runs_refused}
use Rattle.kf_laws.proofs.TaskRefusals.{are_reasoned}
use Rattle.kf_laws.proofs.definitions.reasoned_refusals.Goals as goal

pub returns : goal.returns
returns c =
    let program = c.grammar.ensures in
    let refused = c.refusals.ensures in
    let typed = c.type_laws.ensures in
    let made = c.made_laws.ensures in
    let tasks : RefusalsAreReasoned =
    are_reasoned (one_typed c.one_reading.ensures program.one refused.both refused.refusal typed.one typed.typed) made.parsed made.typed made.clear made.scale c.tasks_in_range.ensures in
    record { tasks = tasks; runs = runs_refused tasks }
