use Rattle.std.proofs.Common.{◌≡◌, ◌++◌}
use Rattle.kf_hyper.specs.Sums.{summed}
use Rattle.kf_cert.proofs.matrix_rules.weights.entries_of.Given as goal

abbrev pub invariant-loop-value : goal.invariant-loop-value
invariant-loop-value l = l.entries.items ++ summed l.value-iterator ≡ summed l.fn.sums.entries
