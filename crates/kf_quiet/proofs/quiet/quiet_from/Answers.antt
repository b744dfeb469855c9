use Rattle.std.proofs.Common.{◌≡◌, ap, length, subst, sym, ◌∙◌, arith}
use Rattle.std.proofs.lemmas.List.{length-map}
use Rattle.kf_hyper.specs.Views.{inners_of}
use Rattle.kf_core.specs.Programs.{ProgramTree}
use Rattle.kf_core.specs.Views.{st_items, st_tree}
use Rattle.kf_push.specs.Meanings.{IsFinished}
use Rattle.kf_silent.proofs.QuietBlock.{quiet_finished, rest_ready}
use Rattle.kf_quiet.proofs.quiet.quiet_from.Goals as goal

pub push-requires-clause-ready : goal.push-requires-clause-ready
push-requires-clause-ready g c =
    let m = g.P.Pusher.meaning c.args.p.now in
    let stands = c.requires.stands in
    let laws = c.run_laws.ensures in
    rest_ready m c.program-program.ensures.meaning c.choice_laws.ensures.shares laws.program laws.sequence laws.positive laws.least laws.block
    c.args.from c.args.to (omega (arith, c.requires.some)) stands.column stands.start c.args.before.now.columns c.in_ok-hushed.hushed.columns
    stands.pushed
    c.in_ok-hushed.ensures.behind

pub returns-clause-hyper : goal.returns-clause-hyper
returns-clause-hyper g c =
    let m = g.P.Pusher.meaning c.args.p.now in
    let stands = c.requires.stands in
    let laws = c.run_laws.ensures in
    let program = c.program-program.result.now in
    let all : length c.as_slice.result.now ≡ length m.program.body =
    ap length c.as_slice.ensures ∙ (sym (length-map (st_items program.body) st_tree) ∙ ap (λ (p : ProgramTree). length p.body) c.program-program.ensures.program) in
    quiet_finished m c.program-program.ensures.meaning c.choice_laws.ensures.shares laws.program laws.sequence laws.positive laws.least laws.block
    c.args.from c.args.to (omega (arith, c.requires.some)) stands.column stands.start c.args.before.now.columns c.in_ok-hushed.hushed.columns
    stands.pushed
    c.in_ok-hushed.ensures.behind (length c.as_slice.result.now) all (omega (arith, all, c.requires.within)) c.in_ok-after.after.columns
    c.in_ok-after.ensures.pushed (inners_of c.in_ok-hyper.hyper)
    (subst (λ (p : ProgramTree). IsFinished p c.in_ok-after.after.columns (inners_of c.in_ok-hyper.hyper)) c.program-program.ensures.program
    c.in_ok-hyper.ensures.hyper)
