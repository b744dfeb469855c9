use Rattle.kf_refine.proofs.MatrixRows.{Cuts}
use Rattle.kf_refine.proofs.matrix.matrix.Given as goal

-- the first i rows are cut
abbrev pub invariant-loop-i : goal.invariant-loop-i
invariant-loop-i l = Cuts l.columns l.i l.solution l.list.items
