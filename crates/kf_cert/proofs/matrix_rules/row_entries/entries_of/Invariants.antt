use Rattle.std.proofs.Common.{◌≡◌, ◌++◌, map, drop}
use Rattle.kf_cert.specs.Rows.{rows_tree}
use Rattle.kf_cert.specs.Views.{entry_tree}
use Rattle.kf_cert.proofs.matrix_rules.row_entries.entries_of.Given as goal
use Rattle.kf_cert.specs.Order.{rows_entries}

abbrev pub invariant-loop-i : goal.invariant-loop-i
invariant-loop-i l =
    map entry_tree l.entries.items ++ rows_entries l.i (rows_tree (drop l.i l.rows)) ≡ rows_entries 0 (rows_tree l.rows)
