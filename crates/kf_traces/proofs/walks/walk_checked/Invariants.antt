use Rattle.kf_core.specs.Views.{program_tree}
use Rattle.kf_traces.specs.Traced.{program_traced}
use Rattle.kf_traces.specs.Views.{traced_of}
use Rattle.kf_traces.proofs.WalkingPrograms.{DeclsOn}
use Rattle.kf_traces.proofs.walks.walk_checked.Given as goal

abbrev pub invariant-loop-i : goal.invariant-loop-i
invariant-loop-i l = DeclsOn l.program l.turns (program_traced l.turns l.fn.scale (program_tree l.program)) l.i (traced_of l.state)
