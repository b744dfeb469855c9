use Rattle.std.proofs.Common.{[], drop}
use Rattle.kf_value.specs.Shapes.{shape_size}
use Rattle.kf_core.specs.Views.{program_tree}
use Rattle.kf_traces.specs.Traced.{copy_all}
use Rattle.kf_traces.proofs.Assigning.{GoesOn}
use Rattle.kf_traces.proofs.assigns.copy.Given as goal

abbrev pub invariant-loop-entry : goal.invariant-loop-entry
invariant-loop-entry l =
    let go = copy_all (program_tree l.program) in
    GoesOn go (shape_size l.program.shape) (drop l.entry-index l.stores) (go [] l.stores) l.copied
