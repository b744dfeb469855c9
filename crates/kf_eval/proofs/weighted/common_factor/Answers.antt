use Rattle.std.proofs.Common.{◌+◌, map, drop, sym, ap, ◌∙◌, arith}
use Rattle.kf_frac.specs.Divisors.{gcd_of}
use Rattle.kf_value.proofs.ListLemmas.{left_step, left_end}
use Rattle.kf_core.specs.Choices.{common_factor as factor_of}
use Rattle.kf_eval.specs.Choices.{weighted_tree}
use Rattle.kf_eval.proofs.Placing.{gcd_first, gcd_none, gcd_one, gcd_assoc}
use Rattle.kf_eval.proofs.weighted.common_factor.Goals as goal

pub loop-item-init : goal.loop-item-init
loop-item-init c = gcd_first (factor_of (map weighted_tree c.args.items.now))

pub loop-item-preserved : goal.loop-item-preserved
loop-item-preserved c =
    let here = left_step weighted_tree c.args.items.now c.loop-item.item-index c.item-item.result (omega arith) c.item-item.is in
    let left = factor_of (map weighted_tree (drop (c.loop-item.item-index + 1) c.args.items.now)) in
    ap (λ g. gcd_of g left) c.gcd-factor.ensures
    ∙ (gcd_assoc c.loop-item.factor c.item-item.result.weight left
    ∙ (ap (λ ws. gcd_of c.loop-item.factor (factor_of ws)) (sym here) ∙ c.loop-item.invariant))

pub returns-then-factor-eq1 : goal.returns-then-factor-eq1
returns-then-factor-eq1 c =
    let here = left_step weighted_tree c.args.items.now c.loop-item.item-index c.item-item.result (omega arith) c.item-item.is in
    let left = factor_of (map weighted_tree (drop (c.loop-item.item-index + 1) c.args.items.now)) in
    sym (gcd_one left)
    ∙ (ap (λ g. gcd_of g left) (sym c.if-factor-eq1.true ∙ c.gcd-factor.ensures)
    ∙ (gcd_assoc c.loop-item.factor c.item-item.result.weight left
    ∙ (ap (λ ws. gcd_of c.loop-item.factor (factor_of ws)) (sym here) ∙ c.loop-item.invariant)))

pub returns : goal.returns
returns c =
    let used = left_end weighted_tree c.args.items.now c.loop-item.item-index (omega arith) in
    sym (gcd_none c.loop-item.factor) ∙ (ap (λ ws. gcd_of c.loop-item.factor (factor_of ws)) (sym used) ∙ c.loop-item.invariant)
