use Rattle.std.proofs.Common.{refl}
use Rattle.kf_run.proofs.Rows.{none_rows, one_row, some_total, not_nil, is_nil}
use Rattle.kf_run.proofs.column_spread.add_column.Goals as goal

pub gathered-column-requires-clause-some : goal.gathered-column-requires-clause-some
gathered-column-requires-clause-some c =
    some_total c.args.entries.items (not_nil c.args.entries.items c.args.entries.len c.args.entries.ok.0 c.if-not-is_empty.ensures) c.requires.positive

pub returns-in_ok-push : goal.returns-in_ok-push
returns-in_ok-push c = λ from size column trace shared below.
    one_row from size column trace c.args.entries.items c.args.list.now.items shared c.gathered-column.result c.push.new.self.items
    c.gathered-column.ensures.weights c.gathered-column.ensures.total c.is_column.ensures (c.gathered-column.ensures.below size below) c.in_ok-push.ensures.items

pub returns-else-not-is_empty : goal.returns-else-not-is_empty
returns-else-not-is_empty c = λ from size column trace shared below.
    none_rows from size column trace c.args.entries.items c.args.list.now.items shared _ (is_nil c.args.entries.items c.args.entries.len c.args.entries.ok.0 c.if-not-is_empty.ensures) refl
