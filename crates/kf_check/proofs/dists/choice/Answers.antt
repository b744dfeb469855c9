use Rattle.kf_value.specs.Views.{kind_tree}
use Rattle.kf_check.specs.Views.{known_in}
use Rattle.kf_check.proofs.DistRules.{fails_case}
use Rattle.kf_check.proofs.dists.choice.Goals as goal

pub returns-in_err-pair : goal.returns-in_err-pair
returns-in_err-pair c =
    fails_case (known_in c.args.known.now) (kind_tree c.args.kind.now) c.args.case.now c.from_residual.result c.in_err-pair.field-0.0 c.from_residual.ensures.1
    c.in_err-pair.ensures.err

pub returns : goal.returns
returns c = (c.in_ok-pair.ensures.judged, c.in_ok-pair.ensures.first, c.in_ok-pair.ensures.second)
