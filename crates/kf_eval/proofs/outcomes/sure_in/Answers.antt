use Rattle.kf_value.specs.Shapes.{shape_types}
use Rattle.kf_core.specs.Runs.{store_at}
use Rattle.kf_core.specs.Views.{dx_tree}
use Rattle.kf_eval.specs.Kinds.{shape_kinds}
use Rattle.kf_eval.proofs.Checking.{store_kinds}
use Rattle.kf_eval.proofs.Weighing.{sure_kinded, sure_told}
use Rattle.kf_eval.proofs.outcomes.sure_in.Goals as goal

pub returns-in-Sure-clause-chosen : goal.returns-in-Sure-clause-chosen
returns-in-Sure-clause-chosen c =
    sure_told (store_at (shape_types c.args.shape.now) c.args.store) c.args.d.now.node c.in-Sure.x c.scalar_of.result c.in-Sure.is c.scalar_of.ensures

pub returns-in-Sure-clause-kind : goal.returns-in-Sure-clause-kind
returns-in-Sure-clause-kind c = λ k kinded.
    let s = store_at (shape_types c.args.shape.now) c.args.store in
    let are = store_kinds c.evaluation_laws.ensures.stores c.args.shape.now c.args.store c.requires.store in
    let told = sure_told s c.args.d.now.node c.in-Sure.x c.scalar_of.result c.in-Sure.is c.scalar_of.ensures in
    sure_kinded c.choice_laws.ensures.kinds (shape_kinds c.args.shape.now) s are (dx_tree c.args.d.now) k c.scalar_of.result kinded told
