use Rattle.std.proofs.Common.{ap, ◌∙◌}
use Rattle.kf_column.specs.Joint.{mass}
use Rattle.kf_run.specs.Pushings.{cleared_of}
use Rattle.kf_run.proofs.Meant.{start_weighs}
use Rattle.kf_run.proofs.pusher.PushingRefPusher.start.Goals as goal

pub returns-clause-mass : goal.returns-clause-mass
returns-clause-mass c =
    let begun = c.in_ok-columns.ensures.start in
    ap mass begun.1
    ∙ start_weighs (cleared_of c.args.self.now) c.choice_laws.ensures.shares c.run_laws.ensures.program c.run_laws.ensures.sequence
    c.run_laws.ensures.positive c.run_laws.ensures.least begun.0 begun.2
