use Rattle.std.proofs.Common.{sym, ◌∙◌, arith}
use Rattle.kf_value.proofs.Comparing.{compared-end}
use Rattle.kf_capacity.proofs.values.compare_lists.Goals as goal

pub returns : goal.returns
returns c = c.cmp.ensures ∙ sym (compared-end c.args.xs.now c.args.ys.now c.loop-i.i (omega arith)) ∙ c.loop-i.invariant
