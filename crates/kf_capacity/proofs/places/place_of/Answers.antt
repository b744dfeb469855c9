use Rattle.std.proofs.Common.{rules, map, ◌∙◌}
use Rattle.std.proofs.lemmas.Fn.{always_returns_same}
use Rattle.kf_value.specs.Views.{value_tree, value_trees}
use Rattle.kf_column.specs.Traces.{trace_order}
use Rattle.kf_capacity.proofs.Named.{searched_place}
use Rattle.kf_capacity.proofs.places.place_of.Goals as goal

pub returns : goal.returns
returns c =
    let vs = map value_tree c.args.values.now in
    let found = c.binary_search_by.ensures.position (λ l. trace_order (value_trees l) (map value_tree c.args.values.now))
    (always_returns_same _ _ _ (λ a r g called. search rules)) in
    c.ok.ensures.value ∙ searched_place vs c.args.lists.now c.binary_search_by.result c.requires c.binary_search_by.ensures.bound found
