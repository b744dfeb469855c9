use Rattle.std.proofs.Common.{◌≡◌, ◌+◌, drop}
use Rattle.kf_gain.proofs.Falling.{costs}
use Rattle.kf_gain.proofs.guesses.guessed.Given as goal

abbrev pub invariant-loop-i : goal.invariant-loop-i
invariant-loop-i l = l.cost + costs (l.i + 1) (drop l.i l.weights) ≡ costs 1 l.weights
