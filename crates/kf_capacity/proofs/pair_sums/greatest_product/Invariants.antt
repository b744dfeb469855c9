use Rattle.std.proofs.Common.{◌≡◌, length, drop, max}
use Rattle.kf_capacity.specs.Composing.{products}
use Rattle.kf_capacity.specs.Vulnerabilities.{greatest}
use Rattle.kf_capacity.proofs.pair_sums.greatest_product.Given as goal

abbrev pub invariant-loop-m : goal.invariant-loop-m
invariant-loop-m l =
    max l.most (greatest (products (drop (length l.yielded) l.column) (drop (length l.yielded) l.other))) ≡ greatest (products l.column l.other)
