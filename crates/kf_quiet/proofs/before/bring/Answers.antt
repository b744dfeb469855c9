use Rattle.kf_quiet.proofs.Pushed.{stands_more}
use Rattle.kf_quiet.proofs.before.bring.Goals as goal

pub returns-clause-stands : goal.returns-clause-stands
returns-clause-stands g c =
    let laws = c.run_laws.ensures in
    let told = c.in_ok-after.ensures in
    stands_more (g.P.Pusher.meaning c.args.p.now) c.program.ensures.meaning c.choice_laws.ensures.shares laws.program laws.sequence laws.positive
    laws.least c.args.before.now.at c.args.to c.requires.order c.args.before.now.columns c.in_ok-after.after c.requires.stands told.pushed told.scale
    told.below told.mass told.ready
