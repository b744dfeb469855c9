use Rattle.kf_gain.specs.Views.{table_tree}
use Rattle.kf_refine.specs.Views.{hyper_tree}
use Rattle.kf_cert.proofs.Separating.{separates_told, told_separates}
use Rattle.kf_cert.proofs.gain_rules.separates.Goals as goal

pub returns-clause-told : goal.returns-clause-told
returns-clause-told c =
    let t = table_tree c.args.table in
    let a = hyper_tree c.args.a.now in
    let b = hyper_tree c.args.b.now in
    let first = c.in_ok-of_a.ensures.is in
    let second = c.in_ok-of_b.ensures.is in
    let some = c.args.table.shape.positive in (
      λ yes. separates_told t a b c.in_ok-of_a.of_a c.in_ok-of_b.of_b first.0 second.0 first.1 second.1 first.2 second.2 c.has_shape.ensures.some c.has_shape-2.ensures.some some (c.is_less.ensures.0 yes),
      λ is. c.is_less.ensures.1 (told_separates t a b c.in_ok-of_a.of_a c.in_ok-of_b.of_b first.0 second.0 first.1 second.1 first.2 second.2 c.has_shape.ensures.some c.has_shape-2.ensures.some some is),
    )
