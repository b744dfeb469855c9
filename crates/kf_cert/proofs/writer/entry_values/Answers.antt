use Rattle.std.proofs.Common.{◌+◌, ◌++◌, ◌∙◌, ap, map}
use Rattle.std.proofs.lemmas.List.{map-append}
use Rattle.serde_json.specs.View.{view}
use Rattle.kf_cert.specs.CertTexts.{row_entries}
use Rattle.kf_cert.specs.Parts.{entry_data}
use Rattle.kf_cert.specs.Rows.{row_tree, rows_tree}
use Rattle.kf_cert.proofs.Pieces.{piece_added}
use Rattle.kf_cert.proofs.writer.entry_values.Goals as goal
use Rattle.kf_cert.specs.Order.{rows_entries}

pub loop-i-preserved : goal.loop-i-preserved
loop-i-preserved c =
    let made = c.loop-i.values.items in
    piece_added (λ i rows. map entry_data (rows_entries i (rows_tree rows))) (λ i row. map entry_data (row_entries i 0 (row_tree row)))
    (λ i row rows. map-append entry_data (row_entries i 0 (row_tree row)) (rows_entries (i + 1) (rows_tree rows)))
    c.args.rows.now c.loop-i.i c.index-rows-i.result (map view made) (map view c.add_row.new.values.items) _ c.loop-i-test.true c.index-rows-i.is
    (c.in_ok-add_row.ensures ∙ ap (λ row. map view made ++ map entry_data (row_entries c.loop-i.i 0 (row_tree row))) c.as_slice.ensures) c.loop-i.invariant
