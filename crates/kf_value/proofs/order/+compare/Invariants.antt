use Rattle.std.proofs.Common.{◌≡◌, map, reverse, drop}
use Rattle.kf_value.specs.Values.{order, lexicographic}
use Rattle.kf_value.specs.Views.{value_tree}
use Rattle.kf_value.proofs.order.+compare.Given as goal

-- comparing what is left gives the answer
abbrev pub invariant-compare_lists-loop-i : goal.invariant-compare_lists-loop-i
invariant-compare_lists-loop-i l =
    lexicographic (map order (map value_tree (drop l.i l.xs))) (map value_tree (drop l.i l.ys))
    ≡ lexicographic (map order (map value_tree l.xs)) (map value_tree l.ys)

abbrev pub invariant-compare_reversed-loop-i : goal.invariant-compare_reversed-loop-i
invariant-compare_reversed-loop-i l =
    lexicographic (map order (map value_tree (drop l.i (reverse l.xs)))) (map value_tree (drop l.i (reverse l.ys)))
    ≡ lexicographic (map order (map value_tree (reverse l.xs))) (map value_tree (reverse l.ys))
