use Rattle.std.proofs.Common.{◌≡◌, map, drop}
use Rattle.kf_frac.specs.Divisors.{gcd_of}
use Rattle.kf_core.specs.Choices.{common_factor as factor_of}
use Rattle.kf_eval.specs.Choices.{weighted_tree}
use Rattle.kf_eval.proofs.weighted.common_factor.Given as goal

abbrev pub invariant-loop-item : goal.invariant-loop-item
invariant-loop-item l = gcd_of l.factor (factor_of (map weighted_tree (drop l.item-index l.items))) ≡ factor_of (map weighted_tree l.items)
