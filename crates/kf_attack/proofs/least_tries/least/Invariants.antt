use Rattle.std.proofs.Common.{◌-◌, length}
use Rattle.std.specs.Prelude.{unsigned_abs}
use Rattle.kf_frac.specs.Views.{num_of, den_of}
use Rattle.kf_attack.proofs.Least.{Tried}
use Rattle.kf_attack.proofs.least_tries.least.Given as goal

abbrev pub invariant-loop-before : goal.invariant-loop-before
invariant-loop-before l = Tried l.scale (unsigned_abs (num_of l.wanted)) (den_of l.wanted) l.gains l.tries l.before l.posterior

abbrev pub decreases-loop-before : goal.decreases-loop-before
decreases-loop-before l = length l.gains - l.tries
