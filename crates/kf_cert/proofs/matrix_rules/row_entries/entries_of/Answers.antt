use Rattle.std.proofs.Common.{◌++◌, ◌∙◌, ap, map, refl}
use Rattle.kf_cert.specs.CertTexts.{row_entries}
use Rattle.kf_cert.specs.Rows.{row_tree, rows_tree}
use Rattle.kf_cert.specs.Views.{entry_tree}
use Rattle.kf_cert.proofs.Pieces.{piece_added}
use Rattle.kf_cert.proofs.matrix_rules.row_entries.entries_of.Goals as goal
use Rattle.kf_cert.specs.Order.{rows_entries}

pub loop-i-preserved : goal.loop-i-preserved
loop-i-preserved c =
    piece_added (λ i rows. rows_entries i (rows_tree rows)) (λ i row. row_entries i 0 (row_tree row)) (λ i row rows. refl)
    c.args.rows.now c.loop-i.i c.index-rows-i.result (map entry_tree c.loop-i.entries.items) (map entry_tree c.add_entries.new.entries.items) _ c.loop-i-test.true c.index-rows-i.is
    (c.in_ok-add_entries.ensures ∙ ap (λ row. map entry_tree c.loop-i.entries.items ++ row_entries c.loop-i.i 0 (row_tree row)) c.as_slice.ensures) c.loop-i.invariant
