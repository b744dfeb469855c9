use Rattle.std.proofs.Common.{◌+◌, sym, subst, arith}
use Rattle.kf_core.specs.Pushing.{IsTrail}
use Rattle.kf_run.proofs.Outermost as outermost
use Rattle.kf_run.proofs.stages.trail.Goals as goal

pub loop-at-init : goal.loop-at-init
loop-at-init g c =
    let made = c.in_ok-start.ensures.start in
    let behind = outermost.behind_none (g.S.Stages.meaning c.args.s.now) made.0 c.in_ok-start.start made.1 made.2 c.in_ok-start.ensures.scale c.in_ok-start.ensures.below c.in_ok-start.ensures.mass c.in_ok-start.ensures.ready in (
      made.0,
      behind,
      outermost.counted_first (g.S.Stages.meaning c.args.s.now) made.0 c.in_ok-start.start c.number_of.result c.new-counts.result.items c.push.new.self.items behind c.new-counts.ensures.items c.in_ok-push.ensures.items c.number_of.ensures,
    )

pub pass-requires-clause-scale : goal.pass-requires-clause-scale
pass-requires-clause-scale g c = c.loop-at.invariant.1.scale

pub pass-requires-clause-below : goal.pass-requires-clause-below
pass-requires-clause-below g c = c.loop-at.invariant.1.below

pub pass-requires-clause-apart : goal.pass-requires-clause-apart
pass-requires-clause-apart g c = outermost.behind_apart (g.S.Stages.meaning c.args.s.now) c.loop-at.at c.loop-at.invariant.0 c.loop-at.now c.loop-at.invariant.1

pub pass-requires-clause-mass : goal.pass-requires-clause-mass
pass-requires-clause-mass g c = c.loop-at.invariant.1.whole

pub pass-requires-clause-ready : goal.pass-requires-clause-ready
pass-requires-clause-ready g c = c.loop-at.invariant.1.ready

pub loop-at-preserved : goal.loop-at-preserved
loop-at-preserved g c =
    let before = c.loop-at.invariant in
    let behind = outermost.behind_more (g.S.Stages.meaning c.args.s.now) c.count-at-end.ensures.meaning c.choice_laws.ensures.shares c.run_laws.ensures.program c.run_laws.ensures.sequence c.run_laws.ensures.positive c.run_laws.ensures.least before.0 c.loop-at.at (c.loop-at.at + 1) (omega arith) c.loop-at.now c.in_ok-now.now before.1
    c.in_ok-now.ensures.pushed c.in_ok-now.ensures.scale c.in_ok-now.ensures.below c.in_ok-now.ensures.mass c.in_ok-now.ensures.ready in (
      before.0,
      behind,
      outermost.counted_more (g.S.Stages.meaning c.args.s.now) before.0 c.loop-at.at c.in_ok-now.now c.number_of-in-loop-at.result c.loop-at.counts.items c.push-in-loop-at.new.self.items behind before.2 c.in_ok-push-2.ensures.items c.number_of-in-loop-at.ensures,
    )

pub returns : goal.returns
returns g c =
    let all = c.count-at-end.ensures.count in
    subst (IsTrail (g.S.Stages.meaning c.args.s.now).turns (g.S.Stages.meaning c.args.s.now).program) (sym c.new.ensures)
    (outermost.counted_all (g.S.Stages.meaning c.args.s.now) c.loop-at.invariant.0 c.count-at-end.ensures.meaning c.choice_laws.ensures.shares c.run_laws.ensures.program c.run_laws.ensures.sequence c.run_laws.ensures.positive c.run_laws.ensures.least c.loop-at.at c.loop-at.now c.loop-at.counts.items (omega (arith, all)) c.loop-at.invariant.1 c.loop-at.invariant.2)
