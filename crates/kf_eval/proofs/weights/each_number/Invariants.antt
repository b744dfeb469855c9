use Rattle.std.proofs.Common.{◌≡◌, map}
use Rattle.kf_core.specs.Choices.{once}
use Rattle.kf_eval.proofs.Placing.{trees}
use Rattle.kf_eval.proofs.Weighing.{numbers_from}
use Rattle.kf_eval.proofs.weights.each_number.Given as goal

abbrev pub invariant-loop-k : goal.invariant-loop-k
invariant-loop-k l = trees l.items.items ≡ map once (numbers_from l.first l.k)
