use Rattle.std.proofs.Common.{◌∙◌}
use Rattle.kf_support.proofs.Settling.{same_scales}
use Rattle.kf_support.proofs.ways.common.Goals as goal

pub returns-then-one-other : goal.returns-then-one-other
returns-then-one-other c = c.min.ensures ∙ same_scales c.args.one c.args.other c.requires.one c.if-one-other.true
