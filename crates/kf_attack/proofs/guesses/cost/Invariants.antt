use Rattle.std.proofs.Common.{◌≡◌, ◌+◌, drop}
use Rattle.kf_attack.specs.Inners.{cost_of}
use Rattle.kf_attack.proofs.guesses.cost.Given as goal

abbrev pub invariant-loop-i : goal.invariant-loop-i
invariant-loop-i l = l.cost + cost_of (l.i + 1) (drop l.i l.entries) ≡ cost_of 1 l.entries
