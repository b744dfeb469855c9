use Rattle.std.proofs.Common.{drop, ◌+◌}
use Rattle.kf_hyper.specs.Views.{inners_of}
use Rattle.kf_refine.specs.Rows.{row_from}
use Rattle.kf_refine.proofs.Pushing.{GoesOn}
use Rattle.kf_refine.proofs.kept.push_inners.Given as goal

abbrev pub invariant-loop-i : goal.invariant-loop-i
invariant-loop-i l = GoesOn (row_from (l.first + l.i) (drop l.i (inners_of l.h))) (row_from l.first (inners_of l.h)) l.initial.rows.entries l.rows.entries
