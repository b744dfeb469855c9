use Rattle.std.proofs.Common.{◌≡◌, ap, length, subst, sym, ◌∙◌}
use Rattle.std.proofs.lemmas.List.{length-map}
use Rattle.kf_hyper.specs.Views.{inners_of}
use Rattle.kf_core.specs.Programs.{ProgramTree}
use Rattle.kf_core.specs.Views.{st_items, st_tree}
use Rattle.kf_push.specs.Meanings.{IsFinished}
use Rattle.kf_quiet.proofs.Pushed.{stands_last}
use Rattle.kf_quiet.proofs.statements.whole_hyper.Goals as goal

pub returns-clause-hyper : goal.returns-clause-hyper
returns-clause-hyper g c =
    let m = g.P.Pusher.meaning c.args.p.now in
    let laws = c.run_laws.ensures in
    let program = c.program-program.result.now in
    let after = c.in_ok-after.after in
    let told = c.in_ok-after.ensures in
    let inners = inners_of c.in_ok-hyper.hyper in
    let count = length c.as_slice.result.now in
    let all : count ≡ length m.program.body =
    ap length c.as_slice.ensures ∙ (sym (length-map (st_items program.body) st_tree) ∙ ap (λ (p : ProgramTree). length p.body) c.program-program.ensures.program) in
    stands_last m c.program-program.ensures.meaning c.choice_laws.ensures.shares laws.program laws.sequence laws.positive laws.least count all
    c.args.first.now after c.requires.stands told.pushed told.scale told.below told.mass told.ready inners
    (subst (λ (p : ProgramTree). IsFinished p after.columns inners) c.program-program.ensures.program c.in_ok-hyper.ensures.hyper)
