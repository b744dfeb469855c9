use Rattle.kf_run.specs.Pushings.{owned_by}
use Rattle.kf_run.proofs.Meant.{is_meaning}
use Rattle.kf_run.proofs.pusher.PushingPusher.program.Goals as goal

pub returns-clause-meaning : goal.returns-clause-meaning
returns-clause-meaning c = is_meaning (owned_by c.args.self.now)
