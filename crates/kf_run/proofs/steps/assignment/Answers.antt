use Rattle.std.proofs.Common.{Bool, sym, subst}
use Rattle.std.specs.Prelude.{IfOk}
use Rattle.kf_value.specs.Shapes.{shape_types}
use Rattle.kf_core.specs.Ready.{IsPushed}
use Rattle.kf_core.specs.Runs.{assigned, leaks}
use Rattle.kf_core.specs.Views.{dx_tree}
use Rattle.kf_push.specs.Following.{Goes}
use Rattle.kf_run.proofs.steps.assignment.Goals as goal

pub show-requires-clause-goes : goal.show-requires-clause-goes
show-requires-clause-goes c =
    subst (λ (b : Bool). Goes (assigned (leaks b) (shape_types c.args.shape.now) c.args.slot (dx_tree c.args.dist.now)) c.args.columns.now.columns)
    c.if-shown.true c.requires.goes

pub assign-requires-clause-goes : goal.assign-requires-clause-goes
assign-requires-clause-goes c =
    subst (λ (b : Bool). Goes (assigned (leaks b) (shape_types c.args.shape.now) c.args.slot (dx_tree c.args.dist.now)) c.args.columns.now.columns)
    c.if-shown.false c.requires.goes

pub returns-then-shown-clause-pushed : goal.returns-then-shown-clause-pushed
returns-then-shown-clause-pushed c =
    subst (λ (b : Bool). IfOk c.show.result (λ after. IsPushed (assigned (leaks b) (shape_types c.args.shape.now) c.args.slot (dx_tree c.args.dist.now)) c.args.columns.now.columns after.columns))
    (sym c.if-shown.true) c.show.ensures.pushed
