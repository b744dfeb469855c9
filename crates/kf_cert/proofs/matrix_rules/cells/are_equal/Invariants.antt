use Rattle.std.proofs.Common.{◌≡◌, map, take}
use Rattle.kf_column.specs.Averages.{scaled}
use Rattle.kf_cert.proofs.matrix_rules.cells.are_equal.Given as goal

abbrev pub invariant-loop-k : goal.invariant-loop-k
invariant-loop-k l = map (scaled l.factor) (take l.k l.ones) ≡ map (scaled l.whole) (map (scaled l.times) (take l.k l.others))
