use Rattle.std.proofs.Common.{◌≡◌, ◌++◌, map, drop}
use Rattle.kf_cert.specs.Rows.{share_of}
use Rattle.kf_cert.specs.Views.{entry_tree}
use Rattle.kf_cert.proofs.matrix_rules.shares.shares_over.Given as goal

abbrev pub invariant-loop-entry : goal.invariant-loop-entry
invariant-loop-entry l =
    l.made.items ++ map (share_of l.over) (map entry_tree (drop l.entry-index l.entries)) ≡ map (share_of l.over) (map entry_tree l.entries)
