use Rattle.std.proofs.Common.{inl}
use Rattle.kf_value.specs.Views.{kind_tree}
use Rattle.kf_ast.specs.Views.{dist_tree}
use Rattle.kf_check.specs.Views.{known_in}
use Rattle.kf_check.proofs.DistRules.{fails_asked, asked_answers}
use Rattle.kf_check.proofs.dists.asks_dist.Goals as goal

pub returns-in_err-dist : goal.returns-in_err-dist
returns-in_err-dist c =
    fails_asked (known_in c.args.known.now) (kind_tree c.args.kind.now) (dist_tree c.args.d.now) c.from_residual.result c.in_err-dist.field-0.0 c.from_residual.ensures.1
    (λ told. inl (c.in_err-dist.ensures told))

pub returns : goal.returns
returns c =
    asked_answers (known_in c.args.known.now) (kind_tree c.args.kind.now) c.args.d.now c.in_ok-dist.field-0 c.in_ok-dist.ensures c.asked.result c.asked.ensures.ok c.asked.ensures.err
