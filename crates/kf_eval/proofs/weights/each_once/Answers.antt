use Rattle.std.proofs.Common.{◌∙◌, sym, ap, take, length, map, arith}
use Rattle.std.proofs.lemmas.List.{length-map, take_all}
use Rattle.kf_value.specs.Views.{value_tree}
use Rattle.kf_core.specs.Choices.{once}
use Rattle.kf_eval.specs.Choices.{weighted_tree}
use Rattle.kf_eval.proofs.Weighing.{once_weights, some_counted}
use Rattle.kf_eval.proofs.weights.each_once.Goals as goal

pub returns : goal.returns
returns c =
    let long = length-map c.args.values.now value_tree in
    let all = take_all c.loop-value.value-index c.args.values.now c.loop-value-test.false in
    let held = sym (length-map c.loop-value.items.items weighted_tree) ∙ (ap length c.loop-value.invariant
    ∙ (length-map (map value_tree (take c.loop-value.value-index c.args.values.now)) once ∙ (length-map (take c.loop-value.value-index c.args.values.now) value_tree ∙ ap length all))) in
    once_weights (map value_tree c.args.values.now) c.loop-value.items.items c.requires (omega (arith, long, some_counted (length c.args.values.now) c.is_empty.result c.is_empty.ensures c.if-is_empty.false)) (omega (arith, long, held, c.loop-value.items.ok.0, c.loop-value.items.small))
    (c.loop-value.invariant ∙ ap (λ vs. map once (map value_tree vs)) all)
