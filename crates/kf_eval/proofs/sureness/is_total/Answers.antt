use Rattle.std.proofs.Common.{map, length, slice_get, Some, None, refl, ◌∙◌}
use Rattle.std.proofs.lemmas.Option.{slice_get_read, slice_get_past}
use Rattle.kf_ops.specs.Rows.{operators}
use Rattle.kf_ops.specs.Views.{row_of}
use Rattle.kf_core.specs.Views.{ex_tree}
use Rattle.kf_core.specs.Each.{exs}
use Rattle.kf_eval.proofs.TotalRows.{row_found, no_row, wide_row, plain_row, divided_row}
use Rattle.kf_eval.proofs.sureness.is_total.Goals as goal

pub returns-then-not-row-2 : goal.returns-then-not-row-2
returns-then-not-row-2 c =
    let here = slice_get_read c.operators.result (length c.operators.result) c.args.row c.in-Some.row.now refl c.in-Some.ensures.lookup.3.0 c.in-Some.ensures.lookup.1 in
    plain_row (slice_get operators c.args.row) (exs (map ex_tree c.args.args.now)) (row_of c.in-Some.row.now)
    (row_found c.operators.result c.args.row (Some c.in-Some.row.now) c.operators.ensures here) c.if-not-row.true c.if-not-row-2.true

pub returns-else-not-row-2 : goal.returns-else-not-row-2
returns-else-not-row-2 c =
    let here = slice_get_read c.operators.result (length c.operators.result) c.args.row c.in-Some.row.now refl c.in-Some.ensures.lookup.3.0 c.in-Some.ensures.lookup.1 in
    c.has_divisor.ensures
    ∙ divided_row (slice_get operators c.args.row) (exs (map ex_tree c.args.args.now)) (row_of c.in-Some.row.now)
    (row_found c.operators.result c.args.row (Some c.in-Some.row.now) c.operators.ensures here) c.if-not-row.true c.if-not-row-2.false

pub returns-else-not-row : goal.returns-else-not-row
returns-else-not-row c =
    let here = slice_get_read c.operators.result (length c.operators.result) c.args.row c.in-Some.row.now refl c.in-Some.ensures.lookup.3.0 c.in-Some.ensures.lookup.1 in
    wide_row (slice_get operators c.args.row) (exs (map ex_tree c.args.args.now)) (row_of c.in-Some.row.now)
    (row_found c.operators.result c.args.row (Some c.in-Some.row.now) c.operators.ensures here) c.if-not-row.false

pub returns-in-None : goal.returns-in-None
returns-in-None c =
    no_row (slice_get operators c.args.row) (exs (map ex_tree c.args.args.now))
    (row_found c.operators.result c.args.row None c.operators.ensures (slice_get_past c.operators.result c.args.row c.in-None.ensures.lookup.3))
