use Rattle.std.proofs.Common.{◌≡◌, max, drop}
use Rattle.kf_cert.specs.Rows.{rows_tree}
use Rattle.kf_cert.proofs.writer.widest.Given as goal
use Rattle.kf_cert.specs.Order.{widest}

abbrev pub invariant-loop-row : goal.invariant-loop-row
invariant-loop-row l = max l.width (widest (rows_tree (drop l.row-index l.rows))) ≡ widest (rows_tree l.rows)
