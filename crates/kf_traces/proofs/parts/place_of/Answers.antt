use Rattle.std.proofs.Common.{rules}
use Rattle.std.proofs.lemmas.Fn.{always_returns_same}
use Rattle.kf_value.specs.Values.{order}
use Rattle.kf_value.specs.Views.{value_tree}
use Rattle.kf_traces.proofs.parts.place_of.Goals as goal

pub returns-in_default-clause-found : goal.returns-in_default-clause-found
returns-in_default-clause-found c = c.binary_search_by.ensures.position (λ p. order (value_tree p.value) (value_tree c.args.value.now)) (always_returns_same _ _ _ (λ a r g called. search rules))
