use Rattle.kf_hyper.specs.Views.{inners_of}
use Rattle.kf_load.specs.Views.{program_in}
use Rattle.kf_support.specs.Cleared.{turns_of}
use Rattle.kf_top.proofs.Capacities.{beliefs_tell}
use Rattle.kf_top.proofs.capacity.belief_capacity.Goals as goal

pub returns : goal.returns
returns c =
    let cleared = c.args.cleared.now in
    beliefs_tell (turns_of cleared) (program_in cleared) (inners_of c.in_ok-hyper.hyper) c.in_ok-hyper.ensures.hyper c.in_ok-found.found c.in_ok-found.ensures
