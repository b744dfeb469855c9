use Rattle.std.proofs.Common.{◌+◌, ◌≡◌, ℕ, List, ap, map, subst, sym, ◌∙◌, arith}
use Rattle.kf_core.specs.Joint.{Cell}
use Rattle.kf_core.specs.Programs.{ProgramTree}
use Rattle.kf_core.specs.Views.{st_tree}
use Rattle.kf_hyper.specs.Views.{inners_of, scale_of}
use Rattle.kf_quiet.proofs.Blames.{shows_hyper}
use Rattle.kf_quiet.proofs.Unseen.{unseen_is}
use Rattle.kf_quiet.proofs.statements.blame_without.Goals as goal
use Rattle.kf_quiet.specs.Standing.{StandsBefore}
use Rattle.kf_quiet.specs.Views.{ShowsBlameOf}
use Rattle.kf_silent.specs.Quiet.{quiet_joint}

pub returns-then-shows_nothing-clause-blame : goal.returns-then-shows_nothing-clause-blame
returns-then-shows_nothing-clause-blame g c =
    let m = g.P.Pusher.meaning c.args.p.now in
    let xs = c.as_slice.result.now in
    let body : map st_tree xs ≡ m.program.body = ap (map st_tree) c.as_slice.ensures ∙ ap (λ (p : ProgramTree). p.body) c.program-program.ensures.program in
    let same = unseen_is c.run_laws.ensures.sequence m.turns m.program c.args.i xs c.index-as_slice-i.result body c.requires.within c.index-as_slice-i.is
    (c.shows_nothing.ensures c.if-shows_nothing.true) in
    subst (λ (joint : List Cell). ShowsBlameOf joint m.scale c.args.whole) (sym same) c.requires.whole

pub returns-clause-blame : goal.returns-clause-blame
returns-clause-blame g c =
    let m = g.P.Pusher.meaning c.args.p.now in
    let i = c.args.i in
    let quiet = c.in_ok-quiet.quiet in
    shows_hyper (quiet_joint m.turns m.program i (i + 1)) m.scale (scale_of quiet) (inners_of quiet) c.in_ok-blame.blame c.in_ok-quiet.ensures.hyper
    c.in_ok-quiet.ensures.scale c.in_ok-blame.ensures.inners c.in_ok-blame.ensures.bayes

pub returns-then-shows_nothing-clause-order : goal.returns-then-shows_nothing-clause-order
returns-then-shows_nothing-clause-order g c = c.requires.order

pub returns-then-shows_nothing-clause-stands : goal.returns-then-shows_nothing-clause-stands
returns-then-shows_nothing-clause-stands g c = c.requires.stands

pub bring-requires-clause-order : goal.bring-requires-clause-order
bring-requires-clause-order g c = c.requires.order

pub bring-requires-clause-within : goal.bring-requires-clause-within
bring-requires-clause-within g c = omega (arith, c.requires.within)

pub bring-requires-clause-stands : goal.bring-requires-clause-stands
bring-requires-clause-stands g c = c.requires.stands

pub quiet_from-requires-clause-within : goal.quiet_from-requires-clause-within
quiet_from-requires-clause-within g c = omega (arith, c.requires.within)

pub quiet_from-requires-clause-stands : goal.quiet_from-requires-clause-stands
quiet_from-requires-clause-stands g c = subst (λ (at : ℕ). StandsBefore (g.P.Pusher.meaning c.args.p.now) at c.bring.new.before.columns) c.in_ok-bring.ensures.place c.in_ok-bring.ensures.stands

pub returns-clause-order : goal.returns-clause-order
returns-clause-order g c = omega (arith, c.in_ok-bring.ensures.place)

pub returns-clause-stands : goal.returns-clause-stands
returns-clause-stands g c = c.in_ok-bring.ensures.stands
