use Rattle.kf_refine.proofs.Tabling.{IsLeastShift}
use Rattle.kf_refine.proofs.multipliers.least_shift.Given as goal

-- it is the shift of the numbers so far
abbrev pub invariant-loop-number : goal.invariant-loop-number
invariant-loop-number l = IsLeastShift l.numbers l.number-index l.shift
