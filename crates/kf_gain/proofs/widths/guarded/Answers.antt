use Rattle.std.proofs.Common.{rules}
use Rattle.kf_gain.proofs.widths.guarded.Goals as goal

pub returns-then-not-within-clause-wide : goal.returns-then-not-within-clause-wide
returns-then-not-within-clause-wide c = λ wide. (c.in_ok-width.width, c.in_ok-width.ensures, search rules)

pub returns-clause-narrow : goal.returns-clause-narrow
returns-clause-narrow c = (c.in_ok-width.width, c.in_ok-width.ensures, search rules)
