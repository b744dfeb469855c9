use Rattle.std.proofs.Common.{[], refl}
use Rattle.std.specs.List.{flat_map, enumerate_from}
use Rattle.kf_channel.specs.Views.{rows_of, row_at}
use Rattle.kf_cert.proofs.Pieces.{piece_added}
use Rattle.kf_text.specs.Parts.{column_line}
use Rattle.kf_text.proofs.Printing.{read_itself}
use Rattle.kf_text.proofs.channel.print_columns.Goals as goal

pub loop-j-preserved : goal.loop-j-preserved
loop-j-preserved c =
    let rows = rows_of c.args.channel.now in
    piece_added (λ j rs. flat_map column_line (enumerate_from j rs)) (λ j r. column_line (j, r)) (λ j r rs. refl) rows c.loop-j.j (row_at c.args.channel.now c.loop-j.j)
    c.loop-j.out.items c.print_column.new.out.items _ (rw c.columns-count.ensures at c.loop-j-test.true)
    (read_itself rows c.loop-j.j (record { trace = []; column = [] })) c.in_ok-print_column.ensures c.loop-j.invariant
