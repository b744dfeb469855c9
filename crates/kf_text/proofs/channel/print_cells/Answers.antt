use Rattle.std.proofs.Common.{[], slice_index}
use Rattle.kf_channel.specs.Views.{rows_of, row_at, secrets_of}
use Rattle.kf_text.specs.Parts.{cell_line}
use Rattle.kf_text.proofs.Printing.{one_more, read_itself}
use Rattle.kf_text.proofs.channel.print_cells.Goals as goal

pub loop-j-preserved : goal.loop-j-preserved
loop-j-preserved c =
    let rows = rows_of c.args.channel.now in
    one_more (cell_line rows (slice_index (secrets_of c.args.channel.now) c.args.i)) rows c.loop-j.j (row_at c.args.channel.now c.loop-j.j)
    c.loop-j.out.items c.print_cell.new.out.items _ (rw c.columns-j-end.ensures at c.loop-j-test.true)
    (read_itself rows c.loop-j.j (record { trace = []; column = [] })) c.loop-j.invariant c.in_ok-print_cell.ensures
