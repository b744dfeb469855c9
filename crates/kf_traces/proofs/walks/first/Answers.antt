use Rattle.std.proofs.Common.{◌++◌, ◌∷◌, [], ap, ◌∙◌, map}
use Rattle.kf_value.specs.Views.{value_tree}
use Rattle.kf_traces.proofs.walks.first.Goals as goal

pub returns : goal.returns
returns c = λ i. record {
  trace = map value_tree (c.new.ensures.items i);
  stores = (c.in_ok-push.ensures.items ∙ ap (λ es. es ++ (0, c.args.scale) ∷ []) c.new-stores.ensures.items) i;
}
