use Rattle.std.proofs.Common.{◌+◌, arith}
use Rattle.kf_hyper.specs.Views.{inners_of}
use Rattle.kf_run.proofs.Outermost as outermost
use Rattle.kf_run.proofs.stages.hyper_of.Goals as goal

pub loop-at-init : goal.loop-at-init
loop-at-init g c =
    let made = c.in_ok-columns.ensures.start in (
      made.0,
      outermost.behind_none (g.S.Stages.meaning c.args.s.now) made.0 c.in_ok-columns.columns made.1 made.2 c.in_ok-columns.ensures.scale c.in_ok-columns.ensures.below c.in_ok-columns.ensures.mass c.in_ok-columns.ensures.ready,
    )

pub pass-requires-clause-scale : goal.pass-requires-clause-scale
pass-requires-clause-scale g c = c.loop-at.invariant.1.scale

pub pass-requires-clause-below : goal.pass-requires-clause-below
pass-requires-clause-below g c = c.loop-at.invariant.1.below

pub pass-requires-clause-apart : goal.pass-requires-clause-apart
pass-requires-clause-apart g c = outermost.behind_apart (g.S.Stages.meaning c.args.s.now) c.loop-at.at c.loop-at.invariant.0 c.loop-at.columns c.loop-at.invariant.1

pub pass-requires-clause-mass : goal.pass-requires-clause-mass
pass-requires-clause-mass g c = c.loop-at.invariant.1.whole

pub pass-requires-clause-ready : goal.pass-requires-clause-ready
pass-requires-clause-ready g c = c.loop-at.invariant.1.ready

pub loop-at-preserved : goal.loop-at-preserved
loop-at-preserved g c = (
  c.loop-at.invariant.0,
  outermost.behind_more (g.S.Stages.meaning c.args.s.now) c.count-count.ensures.meaning c.choice_laws.ensures.shares c.run_laws.ensures.program c.run_laws.ensures.sequence c.run_laws.ensures.positive c.run_laws.ensures.least c.loop-at.invariant.0 c.loop-at.at (c.loop-at.at + 1) (omega arith) c.loop-at.columns c.in_ok-columns-2.columns c.loop-at.invariant.1
      c.in_ok-columns-2.ensures.pushed c.in_ok-columns-2.ensures.scale c.in_ok-columns-2.ensures.below c.in_ok-columns-2.ensures.mass c.in_ok-columns-2.ensures.ready,
)

pub finish-requires-clause-scale : goal.finish-requires-clause-scale
finish-requires-clause-scale g c = c.loop-at.invariant.1.scale

pub finish-requires-clause-below : goal.finish-requires-clause-below
finish-requires-clause-below g c = c.loop-at.invariant.1.below

pub finish-requires-clause-mass : goal.finish-requires-clause-mass
finish-requires-clause-mass g c = c.loop-at.invariant.1.whole

pub returns-clause-hyper : goal.returns-clause-hyper
returns-clause-hyper g c =
    let all = c.count-count.ensures.count in
    outermost.behind_all (g.S.Stages.meaning c.args.s.now) c.count-count.ensures.meaning c.choice_laws.ensures.shares c.run_laws.ensures.program c.run_laws.ensures.sequence c.run_laws.ensures.positive c.run_laws.ensures.least c.loop-at.invariant.0 c.loop-at.at c.loop-at.columns (inners_of c.in_ok-hyper.hyper)
    (omega (arith, all)) c.loop-at.invariant.1 c.in_ok-hyper.ensures.hyper
