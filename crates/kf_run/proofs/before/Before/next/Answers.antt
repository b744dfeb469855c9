use Rattle.std.proofs.Common.{◌+◌, arith}
use Rattle.kf_run.specs.Before.{cleared_before, meaning_of}
use Rattle.kf_run.proofs.Outermost as outermost
use Rattle.kf_run.proofs.before.Before.next.Goals as goal

pub pass-requires-clause-scale : goal.pass-requires-clause-scale
pass-requires-clause-scale c = c.requires.before.behind.scale

pub pass-requires-clause-below : goal.pass-requires-clause-below
pass-requires-clause-below c = c.requires.before.behind.below

pub pass-requires-clause-apart : goal.pass-requires-clause-apart
pass-requires-clause-apart c =
    outermost.behind_apart (meaning_of (cleared_before c.args.self.now)) c.args.self.now.at c.requires.before.column c.args.self.now.columns
    c.requires.before.behind

pub pass-requires-clause-mass : goal.pass-requires-clause-mass
pass-requires-clause-mass c = c.requires.before.behind.whole

pub pass-requires-clause-ready : goal.pass-requires-clause-ready
pass-requires-clause-ready c = c.requires.before.behind.ready

pub returns-clause-before : goal.returns-clause-before
returns-clause-before c = record {
  column = c.requires.before.column;
  behind =
      outermost.behind_more (meaning_of (cleared_before c.args.self.now)) c.count-count.ensures.meaning c.choice_laws.ensures.shares
      c.run_laws.ensures.program c.run_laws.ensures.sequence c.run_laws.ensures.positive c.run_laws.ensures.least c.requires.before.column
      c.args.self.now.at (c.args.self.now.at + 1) (omega arith) c.args.self.now.columns c.in_ok-after.after c.requires.before.behind
      c.in_ok-after.ensures.pushed c.in_ok-after.ensures.scale c.in_ok-after.ensures.below c.in_ok-after.ensures.mass c.in_ok-after.ensures.ready;
}
