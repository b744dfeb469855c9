use Rattle.std.proofs.Common.{[], ap, ◌∙◌}
use Rattle.kf_support.specs.Carried.{with_all}
use Rattle.kf_support.proofs.Settling.{settled_reached, settled_again}
use Rattle.kf_support.proofs.ways.shortened.Goals as goal

pub returns-clause-same : goal.returns-clause-same
returns-clause-same c = ap (with_all []) c.in_ok-reached.ensures.settled ∙ settled_again c.requires.ways.0 c.args.ways.items c.requires.ways.1

pub returns-clause-ways : goal.returns-clause-ways
returns-clause-ways c = λ size ways. (settled_reached size c.args.ways.items c.in_ok-reached.reached.items ways c.in_ok-reached.ensures.settled).0
