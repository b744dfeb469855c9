use Rattle.std.proofs.Common.{◌≡◌, ◌++◌, map, drop}
use Rattle.serde_json.specs.View.{view}
use Rattle.kf_cert.specs.Parts.{entry_data}
use Rattle.kf_cert.specs.Rows.{rows_tree}
use Rattle.kf_cert.proofs.writer.entry_values.Given as goal
use Rattle.kf_cert.specs.Order.{rows_entries}

abbrev pub invariant-loop-i : goal.invariant-loop-i
invariant-loop-i l =
    map view l.values.items ++ map entry_data (rows_entries l.i (rows_tree (drop l.i l.rows))) ≡ map entry_data (rows_entries 0 (rows_tree l.rows))
