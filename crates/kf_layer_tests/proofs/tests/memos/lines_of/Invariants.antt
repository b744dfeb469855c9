use Rattle.kf_core.specs.Views.{dx_tree}
use Rattle.kf_eval.specs.Memos.{IsMemoOf}
use Rattle.kf_layer_tests.proofs.tests.memos.lines_of.Given as goal

abbrev pub invariant-loop-store : goal.invariant-loop-store
invariant-loop-store g l = IsMemoOf l.shape (dx_tree l.dist) l.memo
