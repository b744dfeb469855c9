use Rattle.kf_core.specs.Joint.{joint_of}
use Rattle.kf_hyper.specs.Views.{inners_of, scale_of}
use Rattle.kf_quiet.proofs.Blames.{shows_hyper}
use Rattle.kf_quiet.proofs.statements.whole_blame.Goals as goal

pub returns : goal.returns
returns g c =
    let m = g.P.Pusher.meaning c.args.p.now in
    let whole = c.in_ok-whole.whole in
    shows_hyper (joint_of m.turns m.program) m.scale (scale_of whole) (inners_of whole) c.in_ok-blame.blame c.in_ok-whole.ensures.hyper
    c.in_ok-whole.ensures.scale c.in_ok-blame.ensures.inners c.in_ok-blame.ensures.bayes
