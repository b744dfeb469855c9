use Rattle.std.proofs.Common.{◌≡◌, ◌++◌, map, drop}
use Rattle.serde_json.specs.View.{view}
use Rattle.kf_cert.specs.CertTexts.{row_entries}
use Rattle.kf_cert.specs.Parts.{entry_data}
use Rattle.kf_cert.specs.Rows.{row_tree}
use Rattle.kf_cert.proofs.writer.add_row.Given as goal

abbrev pub invariant-loop-j : goal.invariant-loop-j
invariant-loop-j l =
    map view l.values.items ++ map entry_data (row_entries l.i l.j (row_tree (drop l.j l.row)))
    ≡ map view l.initial.values.items ++ map entry_data (row_entries l.i 0 (row_tree l.row))
