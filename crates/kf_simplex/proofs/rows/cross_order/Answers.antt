use Rattle.kf_simplex.proofs.FlatRows.{passed_narrow}
use Rattle.kf_simplex.proofs.rows.cross_order.Goals as goal

pub product-left-requires-clause-a : goal.product-left-requires-clause-a
product-left-requires-clause-a c = passed_narrow c.args.x c.ranges.x c.requires.x

pub product-left-requires-clause-b : goal.product-left-requires-clause-b
product-left-requires-clause-b c = passed_narrow c.args.q c.ranges.q c.requires.q

pub product-right-requires-clause-a : goal.product-right-requires-clause-a
product-right-requires-clause-a c = passed_narrow c.args.y c.ranges.y c.requires.y

pub product-right-requires-clause-b : goal.product-right-requires-clause-b
product-right-requires-clause-b c = passed_narrow c.args.p c.ranges.p c.requires.p

pub returns-then-left-right-clause-greater : goal.returns-then-left-right-clause-greater
returns-then-left-right-clause-greater c = λ e. cc e

pub returns-then-left-right-clause-equal : goal.returns-then-left-right-clause-equal
returns-then-left-right-clause-equal c = λ e. cc e

pub returns-then-right-left-clause-less : goal.returns-then-right-left-clause-less
returns-then-right-left-clause-less c = λ e. cc e

pub returns-then-right-left-clause-equal : goal.returns-then-right-left-clause-equal
returns-then-right-left-clause-equal c = λ e. cc e

pub returns-else-right-left-clause-less : goal.returns-else-right-left-clause-less
returns-else-right-left-clause-less c = λ e. cc e

pub returns-else-right-left-clause-greater : goal.returns-else-right-left-clause-greater
returns-else-right-left-clause-greater c = λ e. cc e
