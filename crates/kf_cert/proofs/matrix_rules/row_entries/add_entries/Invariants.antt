use Rattle.std.proofs.Common.{◌≡◌, ◌++◌, map, drop}
use Rattle.kf_cert.specs.CertTexts.{row_entries}
use Rattle.kf_cert.specs.Rows.{row_tree}
use Rattle.kf_cert.specs.Views.{entry_tree}
use Rattle.kf_cert.proofs.matrix_rules.row_entries.add_entries.Given as goal

abbrev pub invariant-loop-j : goal.invariant-loop-j
invariant-loop-j l =
    map entry_tree l.entries.items ++ row_entries l.i l.j (row_tree (drop l.j l.row))
    ≡ map entry_tree l.initial.entries.items ++ row_entries l.i 0 (row_tree l.row)
