use Rattle.std.proofs.Common.{◌≡◌}
use Rattle.kf_cert.proofs.GreatestSum.{greatest_from}
use Rattle.kf_cert.proofs.gain_rules.sums.greatest_sum.Given as goal

abbrev pub invariant-loop-sum : goal.invariant-loop-sum
invariant-loop-sum l = greatest_from l.greatest l.sum-iterator ≡ greatest_from l.initial.greatest l.fn.sums.entries
