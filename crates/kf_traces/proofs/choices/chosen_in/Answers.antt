use Rattle.kf_value.specs.Shapes.{shape_types}
use Rattle.kf_core.specs.Choices.{choices}
use Rattle.kf_core.specs.Views.{dx_shape}
use Rattle.kf_core.specs.Runs.{store_at}
use Rattle.kf_core.proofs.Stores.{store_is}
use Rattle.kf_traces.proofs.Choosing.{faulted}
use Rattle.kf_traces.proofs.choices.chosen_in.Goals as goal

pub returns-in_ok-memo-in_default : goal.returns-in_ok-memo-in_default
returns-in_ok-memo-in_default c =
    let ts = shape_types c.args.shape.now in
    let known = c.in-Err.ensures.fault (store_at ts c.args.store) (store_is ts c.args.store c.requires.store) in
    record {
      memo = c.in_ok-memo-in_default.ensures;
      found = tt;
      within = tt;
      fault = λ none. faulted c.args.dist.now.at (choices (store_at ts c.args.store) (dx_shape c.args.dist.now.node)) c.in-Err.error known c.in_default.not-Mem;
    }
