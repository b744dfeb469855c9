use Rattle.std.proofs.Common.{[], drop}
use Rattle.kf_value.specs.Shapes.{shape_size, shape_types}
use Rattle.kf_core.specs.Views.{dx_tree}
use Rattle.kf_eval.specs.Memos.{IsMemoOf}
use Rattle.kf_traces.specs.Traced.{assign_all}
use Rattle.kf_traces.proofs.Assigning.{GoesOn}
use Rattle.kf_traces.proofs.assigns.assign.Given as goal

abbrev pub invariant-loop-entry : goal.invariant-loop-entry
invariant-loop-entry l =
    let go = assign_all (shape_types l.shape) l.slot (dx_tree l.dist) in
    record {
      on : GoesOn go (shape_size l.shape) (drop l.entry-index l.stores) (go [] l.stores) l.reached;
      memo : IsMemoOf l.shape (dx_tree l.dist) l.memo;
    }
