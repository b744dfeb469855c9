use Rattle.std.proofs.Common.{◌≡◌, ℕ, List, [], ◌∷◌, ◌++◌, ap, length, subst, sym, ◌∙◌, arith, suc, ◌+◌}
use Rattle.std.proofs.lemmas.List.{length-map}
use Rattle.kf_core.specs.Programs.{ProgramTree}
use Rattle.kf_core.specs.Views.{st_items, st_tree}
use Rattle.kf_silent.specs.Quiet.{quiet_joint}
use Rattle.kf_quiet.specs.Views.{ShowBlames}
use Rattle.kf_quiet.specs.declared.blame.Blame.{Blame}
use Rattle.kf_quiet.proofs.Blames.{AreFirst, first_all, first_more, first_one, show_more}
use Rattle.kf_quiet.specs.Standing.{StandsBefore}
use Rattle.kf_quiet.proofs.statements.blame_of.Goals as goal
use Rattle.kf_quiet.specs.Summaries.{SummaryTree, IsSummary}
use Rattle.kf_gain.specs.Gains.{Bayes}

pub blame_without-requires-clause-order : goal.blame_without-requires-clause-order
blame_without-requires-clause-order g c = c.loop-i.invariant.3

pub blame_without-requires-clause-stands : goal.blame_without-requires-clause-stands
blame_without-requires-clause-stands g c = c.loop-i.invariant.4

pub loop-i-init : goal.loop-i-init
loop-i-init g c =
    let m = g.P.Pusher.meaning c.args.p.now in
    let b = c.in_ok-whole.whole in
    let all = c.in_ok-whole.ensures in
    let before = c.in_ok-before.before in
    let first = c.in_ok-before.ensures in
    let put : c.push.new.self.items ≡ b ∷ [] = c.in_ok-push.ensures.items ∙ ap (λ (l : List Blame). l ++ b ∷ []) c.new-blames.ensures.items in (
      all.tree ∷ [],
      first_one m.turns m.program all.tree all.is,
      subst (ShowBlames m.scale (all.tree ∷ [])) (sym put) (all.shows, tt),
      omega (arith, first.place),
      subst (λ (at : ℕ). StandsBefore m at before.columns) (sym first.place) first.stands,
    )

pub loop-i-preserved : goal.loop-i-preserved
loop-i-preserved g c =
    let m = g.P.Pusher.meaning c.args.p.now in
    let b = c.in_ok-blame_without.field-0 in
    let told = c.in_ok-blame_without.ensures in
    let new = told.blame in
    let had = c.loop-i.invariant in
    let i = c.loop-i.i in
    let next : i + 1 ≡ suc i = omega arith in
    let is = subst (λ k. IsSummary Bayes (quiet_joint m.turns m.program i k) new.tree) next new.is in (
      had.0 ++ new.tree ∷ [],
      subst (λ k. AreFirst m.turns m.program k (had.0 ++ new.tree ∷ [])) (sym next) (first_more m.turns m.program i had.0 new.tree had.1 is),
      subst (ShowBlames m.scale (had.0 ++ new.tree ∷ [])) (sym c.in_ok-push-2.ensures.items)
          (show_more m.scale had.0 c.loop-i.blames.items new.tree b had.2 new.shows),
      omega (arith, told.order),
      told.stands,
    )

pub returns : goal.returns
returns g c =
    let m = g.P.Pusher.meaning c.args.p.now in
    let program = c.program.result.now in
    let had = c.loop-i.invariant in
    let all : length c.as_slice-count.result.now ≡ length m.program.body =
    ap length c.as_slice-count.ensures ∙ (sym (length-map (st_items program.body) st_tree) ∙ ap (λ (p : ProgramTree). length p.body) c.program.ensures.program) in
    (had.0, first_all m.turns m.program c.loop-i.i had.0 (omega (arith, all)) had.1, subst (ShowBlames m.scale had.0) (sym c.new.ensures) had.2)
