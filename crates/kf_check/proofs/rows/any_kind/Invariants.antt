use Rattle.kf_check.proofs.RowRules.{Unsettled}
use Rattle.kf_check.proofs.rows.any_kind.Given as goal

abbrev pub invariant-loop-i : goal.invariant-loop-i
invariant-loop-i l = Unsettled l.patterns l.kinds l.i
