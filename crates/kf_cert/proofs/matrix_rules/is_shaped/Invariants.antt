use Rattle.std.proofs.Common.{◌≡◌, length}
use Rattle.kf_cert.specs.Rows.{row_tree}
use Rattle.kf_cert.proofs.Each.{SoFar}
use Rattle.kf_cert.proofs.matrix_rules.is_shaped.Given as goal

abbrev pub invariant-loop-row : goal.invariant-loop-row
invariant-loop-row l = SoFar row_tree (λ row. length row ≡ l.width) l.rows l.row-index
