use Rattle.std.proofs.Common.{[], drop}
use Rattle.kf_value.specs.Shapes.{shape_types, shape_sizes}
use Rattle.kf_value.specs.Types.{product}
use Rattle.kf_core.specs.Views.{dx_tree}
use Rattle.kf_core.specs.Runs.{tried}
use Rattle.kf_eval.specs.Memos.{IsMemoOf}
use Rattle.kf_support.specs.Carried.{with_all, carry_step, last_lead}
use Rattle.kf_support.proofs.Stepping.{CarriesOn}
use Rattle.kf_support.proofs.steps.last_guard.Given as goal

abbrev pub invariant-loop-way : goal.invariant-loop-way
invariant-loop-way l =
    let lead = last_lead l.dist.at (tried (shape_types l.shape) (dx_tree l.dist)) in
    record {
      carried : CarriesOn lead (product (shape_sizes l.shape)) (drop l.way-index l.from) (carry_step lead (with_all [] l.initial.left.items) l.from) l.left.items;
      memo : IsMemoOf l.shape (dx_tree l.dist) l.memo;
    }
