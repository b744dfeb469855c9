use Rattle.std.proofs.Common.{rules}
use Rattle.kf_top.proofs.Reach.{wanted_part, wanted_some}
use Rattle.kf_top.proofs.attack.wanted.Goals as goal

pub returns-clause-some : goal.returns-clause-some
returns-clause-some c = wanted_some c.args.num c.args.den c.requires.some c.requires.part c.share.result.num c.share.result.den (search rules) (search rules)

pub returns-clause-part : goal.returns-clause-part
returns-clause-part c = wanted_part c.args.num c.args.den c.requires.some c.requires.part c.share.result.num c.share.result.den (search rules) (search rules)
