use Rattle.std.proofs.Common.{ℕ}
use Rattle.std.specs.Int.{IsGcd}
use Rattle.kf_frac.proofs.divisors.wide_gcd.Given as goal

-- the remaining pair has the divisors of the first
abbrev pub invariant-loop-y : goal.invariant-loop-y
invariant-loop-y l = (g : ℕ) → IsGcd l.x l.y g → IsGcd l.fn.x l.fn.y g

abbrev pub decreases-loop-y : goal.decreases-loop-y
decreases-loop-y l = l.y
