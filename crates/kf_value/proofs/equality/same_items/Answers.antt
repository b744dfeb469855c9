use Rattle.std.proofs.Common.{sym, ◌∙◌, true≢false, arith}
use Rattle.kf_value.specs.TypeViews.{item_of}
use Rattle.kf_value.proofs.Alike.{apart, lengths_other, more_same, all_same}
use Rattle.kf_value.proofs.equality.same_items.Goals as goal

pub returns-then-not-same_item : goal.returns-then-not-same_item
returns-then-not-same_item c = (
  λ yes. absurd (true≢false (sym yes)),
  λ same. absurd (apart item_of c.args.xs.now c.args.ys.now c.loop-i.i c.index-xs-i.result c.index-ys-i.result (omega arith) c.index-xs-i.is (omega arith) c.index-ys-i.is
      (λ alike. true≢false (sym (c.same_item.ensures.1 alike) ∙ c.if-not-same_item.true)) same),
)

pub returns-then-xs-ys : goal.returns-then-xs-ys
returns-then-xs-ys c = lengths_other item_of c.args.xs.now c.args.ys.now c.if-xs-ys.true

pub loop-i-preserved : goal.loop-i-preserved
loop-i-preserved c =
    more_same item_of c.args.xs.now c.args.ys.now c.loop-i.i c.index-xs-i.result c.index-ys-i.result
    (omega arith) c.index-xs-i.is (omega arith) c.index-ys-i.is
    (c.same_item.ensures.0 c.if-not-same_item.false) c.loop-i.invariant

pub returns : goal.returns
returns c = all_same item_of c.args.xs.now c.args.ys.now c.loop-i.i (omega arith) (omega arith) c.loop-i.invariant
