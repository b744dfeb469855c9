use Rattle.kf_refine.proofs.Tabling.{IsCommonFactor}
use Rattle.kf_refine.proofs.multipliers.common_factor.Given as goal

-- it is the factor of the numbers so far
abbrev pub invariant-loop-number : goal.invariant-loop-number
invariant-loop-number l = IsCommonFactor l.numbers l.shift l.number-index l.factor
