use Rattle.std.proofs.Common.{[], drop, map}
use Rattle.kf_value.specs.Shapes.{shape_size, shape_types}
use Rattle.kf_core.specs.Views.{dx_tree}
use Rattle.kf_core.specs.Runs.{tried}
use Rattle.kf_eval.specs.Memos.{IsMemoOf}
use Rattle.kf_support.specs.Moves.{store_behind}
use Rattle.kf_traces.specs.Traced.{split as split_of}
use Rattle.kf_traces.specs.Views.{part_of}
use Rattle.kf_traces.proofs.Splits.{SplitsOn}
use Rattle.kf_traces.proofs.steps.split.Given as goal

abbrev pub invariant-loop-entry : goal.invariant-loop-entry
invariant-loop-entry l =
    let tries = tried (shape_types l.shape) (dx_tree l.dist) in
    let go = store_behind (shape_types l.shape) l.into in
    record {
      on : SplitsOn go tries (shape_size l.shape) (drop l.entry-index l.stores) (split_of go tries [] l.stores) (map part_of l.parts.items);
      memo : IsMemoOf l.shape (dx_tree l.dist) l.memo;
    }
