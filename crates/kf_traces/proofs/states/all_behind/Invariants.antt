use Rattle.std.proofs.Common.{◌≡◌, ◌++◌, map}
use Rattle.std.specs.Vec.Iter.{into_iter_items}
use Rattle.kf_value.specs.Views.{value_tree}
use Rattle.kf_traces.specs.Traced.{behind as behind_of}
use Rattle.kf_traces.specs.Views.{part_of, traced_of}
use Rattle.kf_traces.proofs.states.all_behind.Given as goal

abbrev pub invariant-loop-part : goal.invariant-loop-part
invariant-loop-part l =
    map traced_of l.states.items ++ map (behind_of (map value_tree l.trace.items)) (map part_of (into_iter_items l.part-iterator)) ≡ map (behind_of (map value_tree l.trace.items)) (map part_of (into_iter_items l.initial.part-iterator))
