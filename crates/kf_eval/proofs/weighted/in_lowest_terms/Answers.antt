use Rattle.std.proofs.Common.{◌<◌, ◌∙◌, sym, ap, map, length, arith}
use Rattle.std.proofs.lemmas.List.{length-map}
use Rattle.std.proofs.lemmas.List.Elements.{recursion_from_All}
use Rattle.kf_core.specs.Choices.{common_factor as factor_of}
use Rattle.kf_core.proofs.Gcds.{over}
use Rattle.kf_eval.specs.Choices.{weighted_tree}
use Rattle.kf_eval.proofs.Placing.{trees, factor_nonzero, over_one, parted_more, all_parted}
use Rattle.kf_eval.proofs.weighted.in_lowest_terms.Goals as goal

pub nonzero_div-item : goal.nonzero_div-item
nonzero_div-item c =
    let ws = trees c.args.items.items in
    let positive = recursion_from_All (λ w. 0 < w.weight) ws c.requires in
    let long = length-map c.args.items.items weighted_tree in
    let same = ap length c.deref_mut-item-items.ensures.value in
    let factor = c.common_factor-factor.ensures ∙ ap (λ us. factor_of (map weighted_tree us)) c.deref.ensures.value in
    rw factor (factor_nonzero ws c.loop-item.item-index positive (omega (arith, long, same, c.loop-item-test.true)))

pub loop-item-preserved : goal.loop-item-preserved
loop-item-preserved c =
    let same = ap length c.deref_mut-item-items.ensures.value in
    parted_more c.common_factor-factor.result c.args.items.items c.loop-item.item-items c.loop-item.item-index c.item-item.result (omega (arith, same, c.loop-item-test.true)) c.loop-item.invariant

pub returns-then-factor-eq1 : goal.returns-then-factor-eq1
returns-then-factor-eq1 c =
    let ts = trees c.args.items.items in
    let factor = c.common_factor-factor.ensures ∙ ap (λ us. factor_of (map weighted_tree us)) c.deref.ensures.value in
    sym (ap (λ g. over g ts) (sym factor ∙ c.if-factor-eq1.true) ∙ over_one ts)

pub returns : goal.returns
returns c =
    let factor = c.common_factor-factor.ensures ∙ ap (λ us. factor_of (map weighted_tree us)) c.deref.ensures.value in
    let same = ap length c.deref_mut-item-items.ensures.value in
    all_parted c.common_factor-factor.result c.args.items.items c.loop-item.item-items c.loop-item.item-index c.args.items.len c.args.items.ok.0 c.loop-item.invariant (omega (arith, same, c.loop-item-test.false))
    ∙ ap (λ g. over g (trees c.args.items.items)) factor
