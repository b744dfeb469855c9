use Rattle.std.proofs.Common.{codes, length, map, sym, ap, ◌∙◌}
use Rattle.std.proofs.lemmas.List.{length-map}
use Rattle.kf_refine.specs.Views.{matrix_tree}
use Rattle.kf_cert.specs.Parts.{entry_data}
use Rattle.kf_cert.specs.Order.{rows_entries, widest}
use Rattle.kf_cert.specs.Rows.{row_tree, rows_tree}
use Rattle.serde_json.proofs.Views.{view-Object}
use Rattle.kf_cert.proofs.Putting.{listed, named_made, text_put}
use Rattle.kf_cert.proofs.writer.yes_value.Goals as goal

pub returns-clause-data : goal.returns-clause-data
returns-clause-data c =
    let rows = matrix_tree c.args.matrix.now in
    let same = ap rows_tree c.as_slice-rows.ensures in
    view-Object _
    ∙ named_made rows _ _ _ _
    (text_put _ _ c.to_string-2.ensures.ok (codes "rows") _ _ _ c.in_ok-put_text-2.ensures
    (text_put _ _ c.to_string.ensures.ok (codes "columns") _ _ _ c.in_ok-put_text.ensures
    c.in_ok-members.ensures))
    (listed _ _ (c.in_ok-entries.ensures ∙ ap (λ r. map entry_data (rows_entries 0 r)) same))
    (c.widest.ensures ∙ ap widest same) (sym (length-map c.as_slice-rows.result.now row_tree) ∙ ap length same)
