use Rattle.kf_run.specs.Pushings.{cleared_of}
use Rattle.kf_top.proofs.Blocks.{quiet_prints}
use Rattle.kf_top.proofs.quiet.quiet.Goals as goal

pub returns-clause-answer : goal.returns-clause-answer
returns-clause-answer c =
    let is = c.in_ok-hyper.ensures in
    quiet_prints c.args.cleared.now (cleared_of c.new-pushing.result) c.new-pushing.ensures c.in_ok-bytes.bytes.items c.args.from c.args.to c.in_ok-hyper.hyper
    is.hyper is.scale is.target c.in_ok-bytes.ensures
