use Rattle.std.proofs.Common.{sym, ◌∙◌}
use Rattle.kf_parse.proofs.FirstDeep.{deep_at, none_deep}
use Rattle.kf_parse.proofs.deep.first_deep.Goals as goal

pub returns-then-is_deep : goal.returns-then-is_deep
returns-then-is_deep c = deep_at c.loop-token.open c.after-open.result _ c.loop-token.token-index _ c.loop-token-test.true c.after-open.ensures (sym c.is_deep.ensures ∙ c.if-is_deep.true) c.loop-token.invariant.left

pub returns : goal.returns
returns c = none_deep c.loop-token.open _ c.loop-token.token-index c.loop-token-test.false c.loop-token.invariant.left
