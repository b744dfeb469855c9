use Rattle.std.proofs.Common.{rules, map, ap, ◌∙◌, sym}
use Rattle.std.proofs.lemmas.Fn.{always_returns_same}
use Rattle.kf_value.specs.Values.{order}
use Rattle.kf_value.specs.Views.{value_tree}
use Rattle.kf_eval.specs.Insertion.{with_value_at}
use Rattle.kf_eval.proofs.Inserting.{searched}
use Rattle.kf_eval.proofs.sets.place_in.Goals as goal

pub returns-clause-whole : goal.returns-clause-whole
returns-clause-whole c =
    let v = value_tree c.args.value.now in
    let found = c.binary_search_by.ensures.position (λ w. order (value_tree w) (value_tree c.args.value.now)) (always_returns_same _ _ _ (λ a r g called. search rules)) in
    searched v c.args.set.now c.binary_search_by.result c.requires c.binary_search_by.ensures.bound found
    ∙ ap (λ place. with_value_at place v (map value_tree c.args.set.now)) (sym c.err.ensures.value)
