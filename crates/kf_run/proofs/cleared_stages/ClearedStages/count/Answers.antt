use Rattle.kf_run.proofs.Meant.{is_meaning}
use Rattle.kf_run.proofs.cleared_stages.ClearedStages.count.Goals as goal

pub returns-clause-meaning : goal.returns-clause-meaning
returns-clause-meaning c = is_meaning c.args.self.now
