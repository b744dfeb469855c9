use Rattle.std.proofs.Common.{◌≡◌, drop, max}
use Rattle.kf_capacity.proofs.capacities.greatest.Given as goal
use Rattle.kf_capacity.specs.Vulnerabilities.{greatest}

abbrev pub invariant-loop-n : goal.invariant-loop-n
invariant-loop-n l = max l.most (greatest (drop l.n-index l.numbers)) ≡ greatest l.numbers
