use Rattle.std.proofs.Common.{drop, [], true, false}
use Rattle.kf_value.specs.Shapes.{shape_types, shape_sizes}
use Rattle.kf_value.specs.Types.{product}
use Rattle.kf_core.specs.Views.{dx_tree}
use Rattle.kf_core.specs.Runs.{tried}
use Rattle.kf_eval.specs.Memos.{IsMemoOf}
use Rattle.kf_support.specs.Carried.{with_all, carry_step, guard_lead}
use Rattle.kf_support.proofs.Stepping.{CarriesOn}
use Rattle.kf_support.proofs.steps.guard.Given as goal

abbrev pub invariant-loop-way : goal.invariant-loop-way
invariant-loop-way l =
    let size = product (shape_sizes l.shape) in
    let on = guard_lead true (tried (shape_types l.shape) (dx_tree l.dist)) in
    let off = guard_lead false (tried (shape_types l.shape) (dx_tree l.dist)) in
    record {
      on : CarriesOn on size (drop l.way-index l.from) (carry_step on [] l.from) l.taken.items;
      memo : IsMemoOf l.shape (dx_tree l.dist) l.memo;
      off : CarriesOn off size (drop l.way-index l.from) (carry_step off (with_all [] l.initial.left.items) l.from) l.left.items;
    }
