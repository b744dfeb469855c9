use Rattle.std.proofs.Common.{◌+◌, ◌-◌, ◌^◌, min, map, drop, sym, ap, ◌∙◌, arith}
use Rattle.kf_value.proofs.Items.{item_type, items_sized, size_of_items}
use Rattle.kf_value.proofs.ListLemmas.{left_step, left_end}
use Rattle.kf_value.proofs.Widening.{count_start, count_step, count_end}
use Rattle.kf_value.proofs.prints.value_count.Goals as goal

pub loop-item-init : goal.loop-item-init
loop-item-init c = count_start (map item_type c.args.items.now) (items_sized c.args.items.now c.requires)

pub loop-item-preserved : goal.loop-item-preserved
loop-item-preserved c =
    let here = left_step item_type c.args.items.now c.loop-item.item-index c.item-item.result (omega arith) c.item-item.is in
    let next = count_step (map item_type c.args.items.now) (item_type c.item-item.result) (map item_type (drop (c.loop-item.item-index + 1) c.args.items.now)) c.loop-item.count
    (rw here at c.loop-item.invariant) in
    rw (c.saturating_mul-count.ensures, c.from.ensures, c.known_size.ensures.exact) next

pub returns : goal.returns
returns c =
    count_end (map item_type c.args.items.now) c.loop-item.count (rw (left_end item_type c.args.items.now c.loop-item.item-index (omega arith)) at c.loop-item.invariant)
    ∙ ap (λ p. min p (2 ^ 64 - 1)) (sym (size_of_items c.args.items.now))
