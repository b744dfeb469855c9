use Rattle.kf_support.specs.Cleared.{whole_scale}
use Rattle.kf_run.specs.Pushings.{cleared_of}
use Rattle.kf_top.proofs.Blocks.{blame_prints}
use Rattle.kf_top.proofs.quiet.blame.Goals as goal

pub returns-clause-answer : goal.returns-clause-answer
returns-clause-answer c =
    let pushed = cleared_of c.new-pushing.result in
    let blames = c.in_ok-blames.ensures in
    blame_prints c.args.cleared.now pushed c.new-pushing.ensures c.in_ok-bytes.bytes.items blames.0 blames.1 (c.in_ok-bytes.ensures (whole_scale pushed) blames.0 blames.2)
