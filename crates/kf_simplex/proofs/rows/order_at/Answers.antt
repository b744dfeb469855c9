use Rattle.std.proofs.Common.{◌≡◌}
use lib.Signed.{◌<ℤ◌}
use Rattle.kf_simplex.proofs.FlatRows.{passed_narrow, passed_products}
use Rattle.kf_simplex.proofs.rows.order_at.Goals as goal

pub cross_order-requires-clause-x : goal.cross_order-requires-clause-x
cross_order-requires-clause-x c = passed_narrow c.args.x c.ranges.x c.requires.x

pub cross_order-requires-clause-q : goal.cross_order-requires-clause-q
cross_order-requires-clause-q c = passed_narrow c.args.q c.ranges.q c.requires.q

pub cross_order-requires-clause-y : goal.cross_order-requires-clause-y
cross_order-requires-clause-y c = passed_narrow c.args.y c.ranges.y c.requires.y

pub cross_order-requires-clause-p : goal.cross_order-requires-clause-p
cross_order-requires-clause-p c = passed_narrow c.args.p c.ranges.p c.requires.p

pub returns-else-from-column-clause-less : goal.returns-else-from-column-clause-less
returns-else-from-column-clause-less c = λ e. cc e

pub returns-else-from-column-clause-greater : goal.returns-else-from-column-clause-greater
returns-else-from-column-clause-greater c = λ e. cc e

pub returns-then-column-to-clause-less : goal.returns-then-column-to-clause-less
returns-then-column-to-clause-less c = λ e. (
  c.if-from-column.true,
  c.if-column-to.true,
  passed_products (λ u v. u <ℤ v) c.args.x c.args.q c.args.y c.args.p c.ranges.x c.ranges.q c.ranges.y c.ranges.p (c.cross_order.ensures.less e),
)

pub returns-then-column-to-clause-greater : goal.returns-then-column-to-clause-greater
returns-then-column-to-clause-greater c = λ e. (
  c.if-from-column.true,
  c.if-column-to.true,
  passed_products (λ u v. u <ℤ v) c.args.y c.args.p c.args.x c.args.q c.ranges.y c.ranges.p c.ranges.x c.ranges.q (c.cross_order.ensures.greater e),
)

pub returns-then-column-to-clause-equal : goal.returns-then-column-to-clause-equal
returns-then-column-to-clause-equal c = λ e from to.
    passed_products (λ u v. u ≡ v) c.args.x c.args.q c.args.y c.args.p c.ranges.x c.ranges.q c.ranges.y c.ranges.p (c.cross_order.ensures.equal e)
