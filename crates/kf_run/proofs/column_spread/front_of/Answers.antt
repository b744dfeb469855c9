use Rattle.std.proofs.Common.{◌≡◌, ap, arith, get_or, length, subst, sym, ◌∙◌}
use Rattle.kf_value.specs.Views.{value_tree}
use Rattle.kf_run.specs.Spreading.{IsFront}
use Rattle.kf_run.proofs.Rows.{all_front, cut_front, equal_found, equal_missed, past_first, same_more, default}
use Rattle.kf_run.proofs.column_spread.front_of.Goals as goal

pub returns-then-ne-clause-some : goal.returns-then-ne-clause-some
returns-then-ne-clause-some c =
    past_first c.args.leaks.now c.loop-i.i c.index-leaks-i.result c.index-leaks-0.result c.index-leaks-i.is c.loop-i-test.true
    (λ equal. equal_missed c.compare.result c.if-ne.ensures (c.compare.ensures ∙ equal))

pub loop-i-preserved : goal.loop-i-preserved
loop-i-preserved c =
    let first = get_or c.args.leaks.now 0 c.index-leaks-0.result in
    same_more c.args.leaks.now (value_tree first.value) c.loop-i.i c.index-leaks-i.result c.loop-i-test.true c.index-leaks-i.is (sym c.compare.ensures ∙ equal_found c.compare.result c.if-ne.ensures)
    c.loop-i.invariant

pub returns-clause-front : goal.returns-clause-front
returns-clause-front c =
    let first = get_or c.args.leaks.now 0 c.index-leaks-0.result in
    let past : c.loop-i.i ≡ length c.args.leaks.now = omega (arith, c.loop-i-test.false, c.loop-i.auto.i-end) in
    subst (IsFront c.args.leaks.now) past (all_front c.args.leaks.now (value_tree first.value) c.loop-i.i c.loop-i-test.false c.loop-i.invariant)

pub returns-then-ne-clause-front : goal.returns-then-ne-clause-front
returns-then-ne-clause-front c =
    let first = get_or c.args.leaks.now 0 c.index-leaks-0.result in
    let same = default c.args.leaks.now 0 c.index-leaks-0.result c.index-leaks-i.result c.requires.some in
    cut_front c.args.leaks.now (value_tree first.value) c.loop-i.i c.index-leaks-i.result c.index-leaks-i.is c.loop-i-test.true (ap (λ l. value_tree l.value) same)
    (λ equal. equal_missed c.compare.result c.if-ne.ensures (c.compare.ensures ∙ equal)) c.requires.sorted c.loop-i.invariant
