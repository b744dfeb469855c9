use Rattle.kf_cert.specs.Rows.{IsWithin}
use Rattle.kf_cert.specs.Views.{entry_tree}
use Rattle.kf_cert.proofs.Each.{SoFar}
use Rattle.kf_cert.proofs.matrix_rules.are_within.Given as goal

abbrev pub invariant-loop-entry : goal.invariant-loop-entry
invariant-loop-entry l = SoFar entry_tree (λ e. IsWithin e.value) l.entries l.entry-index
