use Rattle.std.proofs.Common.{map}
use Rattle.std.specs.Prelude.{flat_map}
use Rattle.std.specs.Vec.Iter.{into_iter_items}
use Rattle.kf_value.specs.Shapes.{shape_size, shape_types}
use Rattle.kf_core.specs.Runs.{tried}
use Rattle.kf_core.specs.Views.{dx_tree}
use Rattle.kf_eval.specs.Memos.{IsMemoOf}
use Rattle.kf_support.specs.Moves.{store_behind}
use Rattle.kf_traces.specs.Views.{traced_of}
use Rattle.kf_traces.specs.Visits.{leaked}
use Rattle.kf_traces.proofs.Walking.{GoesOn, InSize}
use Rattle.kf_traces.proofs.walks.leak_each.Given as goal

abbrev pub invariant-loop-state : goal.invariant-loop-state
invariant-loop-state l =
    let size = shape_size l.shape in
    let next = leaked (store_behind (shape_types l.shape) l.into) (tried (shape_types l.shape) (dx_tree l.dist)) in
    record {
      on : GoesOn next (InSize size) (InSize size) (flat_map next (map traced_of l.fn.states.items)) (map traced_of l.next.items) (map traced_of (into_iter_items l.state-iterator));
      memo : IsMemoOf l.shape (dx_tree l.dist) l.memo;
    }
