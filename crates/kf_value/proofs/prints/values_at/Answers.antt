use Rattle.std.proofs.Common.{◌≡◌, ◌+◌, ◌/◌, ◌<◌, Some, None, map, drop, slice_get, sym, ap, subst, ◌∙◌, arith}
use Rattle.std.proofs.Math.Nat.{mod-lt}
use Rattle.kf_value.specs.declared.target_item.TargetItem.{TargetItem}
use Rattle.kf_value.specs.Numbers.{target_size}
use Rattle.kf_value.specs.Sizes.{fault_of}
use Rattle.kf_value.specs.TypeViews.{item_of}
use Rattle.kf_value.specs.Views.{value_tree}
use Rattle.kf_value.proofs.Finding.{find_parts_start, find_weight, find_parts_step, find_parts_end}
use Rattle.kf_value.proofs.Items.{item_type, items_sized, no_first_fault, size_of_items, values_of_items}
use Rattle.kf_value.proofs.ListLemmas.{left_step, left_end}
use Rattle.kf_value.proofs.prints.values_at.Goals as goal

abbrev HasItemSize : TargetItem → Type 0
HasItemSize i = fault_of (item_of i).ty ≡ None

pub loop-item-init : goal.loop-item-init
loop-item-init c =
    let types = map item_type c.args.items.now in
    let whole = size_of_items c.args.items.now in
    let fits = c.requires.fits in
    let counted = c.value_count-weight.ensures in
    let weight : c.value_count-weight.result ≡ target_size (map item_of c.args.items.now) = omega arith in
    rw (c.in_ok-values.ensures.items)
    (find_parts_start types c.args.n c.value_count-weight.result (no_first_fault types (items_sized c.args.items.now c.requires.sized))
    (rw (← whole) c.requires.below) (weight ∙ whole))

pub loop-item-preserved : goal.loop-item-preserved
loop-item-preserved c =
    let types = map item_type c.args.items.now in
    let later = map item_type (drop (c.loop-item.item-index + 1) c.args.items.now) in
    let here = left_step item_type c.args.items.now c.loop-item.item-index c.item-item.result (omega arith) c.item-item.is in
    let found = rw here at c.loop-item.invariant in
    let weighs = find_weight types c.args.n c.loop-item.weight (item_type c.item-item.result) later c.loop-item.values.items found in
    let size = c.from-size.ensures ∙ c.known_size.ensures.exact in
    let weight = ap (λ s. c.loop-item.weight / s) size ∙ weighs in
    let place = rw (weight, size) at c.in_ok-value_at.ensures.place in
    rw (weight, c.in_ok-push.ensures.items)
    (find_parts_step types c.args.n c.loop-item.weight (item_type c.item-item.result) later c.loop-item.values.items found c.in_ok-value_at.field-0 place)

pub returns : goal.returns
returns c =
    let used = left_end item_type c.args.items.now c.loop-item.item-index (omega arith) in
    let done = find_parts_end (map item_type c.args.items.now) c.args.n c.loop-item.weight c.loop-item.values.items (rw used at c.loop-item.invariant) in
    ap (λ vss. slice_get vss c.args.n) (values_of_items c.args.items.now)
    ∙ (done ∙ ap (λ vs. Some (map value_tree vs)) (sym c.new.ensures))

pub known_size-requires : goal.known_size-requires
known_size-requires c = subst HasItemSize (sym c.item-item.is) (c.requires.sized c.loop-item.item-index c.item-item.result c.loop-item-test.true)

pub value_at-requires-clause-sized : goal.value_at-requires-clause-sized
value_at-requires-clause-sized c =
    subst HasItemSize (sym c.item-item.is) (c.requires.sized c.loop-item.item-index c.item-item.result c.loop-item-test.true)

pub overflow_cast-n : goal.overflow_cast-n
overflow_cast-n c =
    let some : 0 < c.from-size.result = subst (λ n. 0 < n) (sym c.from-size.ensures) c.known_size.ensures.some in
    omega (arith, mod-lt (c.args.n / (c.loop-item.weight / c.from-size.result)) some, c.from-size.ensures, c.known_size.ensures.few)
