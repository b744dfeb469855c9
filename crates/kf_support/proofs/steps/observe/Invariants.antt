use Rattle.std.proofs.Common.{◌≡◌, length, []}
use Rattle.kf_value.specs.Shapes.{shape_types, shape_sizes}
use Rattle.kf_value.specs.Types.{product}
use Rattle.kf_core.specs.Views.{dx_tree}
use Rattle.kf_eval.specs.Memos.{IsMemoOf}
use Rattle.kf_support.specs.Carried.{carry_step, observe_lead}
use Rattle.kf_support.proofs.Stepping.{PartCarried}
use Rattle.kf_support.proofs.steps.observe.Given as goal

abbrev pub invariant-loop-i : goal.invariant-loop-i
invariant-loop-i l =
    let lead = observe_lead (shape_types l.shape) (dx_tree l.dist) in
    record {
      carried : PartCarried lead (product (shape_sizes l.shape)) (carry_step lead [] l.initial.next.items) l.i l.next.items;
      long : length l.next.items ≡ length l.initial.next.items;
      memo : IsMemoOf l.shape (dx_tree l.dist) l.memo;
    }
