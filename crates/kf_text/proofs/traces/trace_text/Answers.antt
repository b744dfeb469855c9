use Rattle.std.proofs.Common.{arith}
use Rattle.kf_value.specs.Views.{items_of}
use Rattle.kf_text.specs.Texts.{row_lines}
use Rattle.kf_text.proofs.Rows.{row_below, row_narrow, row_printed}
use Rattle.kf_text.proofs.traces.trace_text.Goals as goal

pub print_row-requires-clause-within : goal.print_row-requires-clause-within
print_row-requires-clause-within c =
    row_below c.args.table.now.rows c.as_slice-row-items.result.now c.as_slice-row-items.ensures c.loop-row.row-index c.row-item.result (omega arith) c.row-item.is
    _ _ c.args.table.now.table

pub print_row-requires-clause-parts : goal.print_row-requires-clause-parts
print_row-requires-clause-parts c =
    row_narrow c.args.table.now.rows c.as_slice-row-items.result.now c.as_slice-row-items.ensures c.loop-row.row-index c.row-item.result (omega arith) c.row-item.is
    _ _ c.args.table.now.table

pub loop-row-preserved : goal.loop-row-preserved
loop-row-preserved c =
    row_printed c.args.table.now.rows c.as_slice-row-items.result.now c.as_slice-row-items.ensures c.loop-row.row-index c.row-item.result (omega arith) c.row-item.is
    (row_lines (items_of c.args.table.now.target) c.args.table.now.scale) c.loop-row.out.items c.print_row.new.out.items _ c.in_ok-print_row.ensures c.loop-row.invariant
