use Rattle.kf_run.specs.Pushings.{cleared_of}
use Rattle.kf_run.proofs.Meant.{is_meaning}
use Rattle.kf_run.proofs.pusher.PushingRefPusher.program.Goals as goal

pub returns-clause-meaning : goal.returns-clause-meaning
returns-clause-meaning c = is_meaning (cleared_of c.args.self.now)
