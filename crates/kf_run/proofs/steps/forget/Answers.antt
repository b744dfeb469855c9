use Rattle.kf_core.proofs.FirstStore.{first_store_there}
use Rattle.kf_run.proofs.steps.forget.Goals as goal

pub value_in-requires-clause-store : goal.value_in-requires-clause-store
value_in-requires-clause-store c = first_store_there c.args.shape.now
