use Rattle.std.proofs.Common.{◌+◌, ◌*◌, arith}
use Rattle.kf_simplex.proofs.Entries.{made_ascends}
use Rattle.kf_refine.proofs.Coefficients.{IsOne, ones_none, ones_more, ones_all, ones_within}
use Rattle.kf_refine.proofs.equations.sum_coefficients.Goals as goal

pub loop-l-init : goal.loop-l-init
loop-l-init c = rw c.in_ok-entries.ensures.items (ones_none c.args.columns c.args.p c.requires.some)

pub loop-l-preserved : goal.loop-l-preserved
loop-l-preserved c =
    ones_more c.args.columns c.args.p c.requires.some c.loop-l.l c.loop-l.entries.items c.push.new.self.items c.loop-l-test.true c.in_ok-push.ensures.items
    c.loop-l.invariant

pub invariant_of-result : goal.invariant_of-result
invariant_of-result c = record {
  ascending = made_ascends (IsOne c.args.columns c.args.p) (c.args.p * c.args.columns + c.loop-l.l) c.loop-l.entries.items c.loop-l.invariant;
}

pub returns-clause-within : goal.returns-clause-within
returns-clause-within c = ones_within c.args.columns c.args.p c.requires.some c.loop-l.l c.loop-l.entries.items (omega arith) c.loop-l.invariant

pub returns-clause-numbers : goal.returns-clause-numbers
returns-clause-numbers c = ones_all c.args.columns c.args.p c.requires.some c.loop-l.l c.loop-l.entries.items (omega arith) c.loop-l.invariant
