use Rattle.std.proofs.Common.{ℕ, ◌<◌}
use Rattle.kf_refine.specs.Views.{hyper_tree}
use Rattle.kf_cert.specs.Cells.{IsCarried}
use Rattle.kf_cert.proofs.matrix_rules.cells.all_carried.Given as goal

abbrev pub invariant-loop-j : goal.invariant-loop-j
invariant-loop-j l = (j : ℕ) → j < l.j → IsCarried (hyper_tree l.a) (hyper_tree l.b) l.over l.shares j
