use Rattle.kf_value.specs.Shapes.{shape_types}
use Rattle.kf_core.specs.Choices.{choices}
use Rattle.kf_core.specs.Views.{dx_shape}
use Rattle.kf_core.specs.Runs.{store_at}
use Rattle.kf_core.proofs.Stores.{store_is}
use Rattle.kf_support.proofs.Weighing.{fault_placed}
use Rattle.kf_support.proofs.steps.find_in.Goals as goal

pub returns-in-Err-clause-fault : goal.returns-in-Err-clause-fault
returns-in-Err-clause-fault c =
    let ts = shape_types c.args.shape.now in
    let known = c.in-Err.ensures.fault (store_at ts c.args.store) (store_is ts c.args.store c.requires.store) in
    rw c.fault_of.ensures (fault_placed (choices (store_at ts c.args.store) (dx_shape c.args.dist.now.node)) c.in-Err.error c.args.dist.now.at known)
