use Rattle.std.proofs.Common.{◌≡◌, length, []}
use Rattle.kf_value.specs.Shapes.{shape_sizes}
use Rattle.kf_value.specs.Types.{product}
use Rattle.kf_core.specs.Views.{program_tree}
use Rattle.kf_support.specs.Carried.{carry_step, copy_lead}
use Rattle.kf_support.proofs.Stepping.{PartCarried}
use Rattle.kf_support.proofs.steps.copy.Given as goal

abbrev pub invariant-loop-i : goal.invariant-loop-i
invariant-loop-i l =
    let lead = copy_lead (program_tree l.program) in
    record {
      carried : PartCarried lead (product (shape_sizes l.program.shape)) (carry_step lead [] l.initial.next.items) l.i l.next.items;
      long : length l.next.items ≡ length l.initial.next.items;
    }
