use Rattle.kf_run.specs.Pushings.{cleared_of}
use Rattle.kf_run.proofs.Meant.{push_keeps}
use Rattle.kf_run.proofs.pusher.PushingRefPusher.push.Goals as goal

pub returns-clause-mass : goal.returns-clause-mass
returns-clause-mass c =
    push_keeps (cleared_of c.args.self.now) c.run_laws.ensures.block c.run_laws.ensures.sequence c.args.from c.args.to c.args.columns.now.columns
    c.in_ok-after.after.columns c.are_columns.ensures.are c.requires.ready c.in_ok-after.ensures.pushed
