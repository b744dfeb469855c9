use Rattle.kf_quiet.proofs.Pushed.{stands_first}
use Rattle.kf_quiet.proofs.before.first_before.Goals as goal

pub returns-clause-stands : goal.returns-clause-stands
returns-clause-stands g c =
    let made = c.in_ok-columns.ensures.start in
    stands_first (g.P.Pusher.meaning c.args.p.now) made.0 c.in_ok-columns.columns made.1 made.2 c.in_ok-columns.ensures.scale
    c.in_ok-columns.ensures.below c.in_ok-columns.ensures.mass c.in_ok-columns.ensures.ready
