use Rattle.std.proofs.Common.{◌≡◌, map, drop}
use Rattle.kf_value.specs.Views.{value_tree}
use Rattle.kf_column.specs.Traces.{trace_order}
use Rattle.kf_capacity.proofs.values.compare_lists.Given as goal

-- comparing what is left gives the answer
abbrev pub invariant-loop-i : goal.invariant-loop-i
invariant-loop-i l =
    trace_order (map value_tree (drop l.i l.xs)) (map value_tree (drop l.i l.ys)) ≡ trace_order (map value_tree l.xs) (map value_tree l.ys)
