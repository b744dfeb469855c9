use Rattle.std.proofs.Common.{◌+◌, ◌≤◌, ◌^◌, map, drop, subst, arith}
use Rattle.kf_value.proofs.Items.{item_type, items_sized, no_first_fault, size_of_items}
use Rattle.kf_value.proofs.ListLemmas.{left_step, left_end}
use Rattle.kf_value.proofs.Parts.{total}
use Rattle.kf_value.proofs.ReadingRows.{row_start, row_turn, row_step, row_end}
use Rattle.kf_value.proofs.readings.read_items.Goals as goal

pub loop-item-init : goal.loop-item-init
loop-item-init c =
    let types = map item_type c.args.items.now in
    row_start types c.args.bytes.now (no_first_fault types (items_sized c.args.items.now c.requires.sized))

pub returns-in_err-n : goal.returns-in_err-n
returns-in_err-n c = λ m all r place whole.
    let types = map item_type c.args.items.now in
    let later = map item_type (drop (c.loop-item.item-index + 1) c.args.items.now) in
    let fits : total types ≤ 2 ^ 63 = subst (λ k. k ≤ 2 ^ 63) (size_of_items c.args.items.now) c.requires.fits in
    let here = left_step item_type c.args.items.now c.loop-item.item-index c.item-item.result (omega arith) c.item-item.is in
    let found = rw here at c.loop-item.invariant in
    let turn = row_turn types fits (item_type c.item-item.result) later c.args.bytes.now c.loop-item.rest.now c.loop-item.n found m all r place whole in
    absurd (c.in_err-n.ensures turn.digit turn.value turn.others r turn.at turn.text_here turn.small)

pub loop-item-preserved : goal.loop-item-preserved
loop-item-preserved c =
    let types = map item_type c.args.items.now in
    let later = map item_type (drop (c.loop-item.item-index + 1) c.args.items.now) in
    let fits : total types ≤ 2 ^ 63 = subst (λ k. k ≤ 2 ^ 63) (size_of_items c.args.items.now) c.requires.fits in
    let here = left_step item_type c.args.items.now c.loop-item.item-index c.item-item.result (omega arith) c.item-item.is in
    let found = rw here at c.loop-item.invariant in
    row_step types fits (item_type c.item-item.result) later c.args.bytes.now c.loop-item.rest.now c.loop-item.n found c.in_ok-n.field-0-0 c.in_ok-n.field-0-1.now
    c.in_ok-n.ensures

pub returns : goal.returns
returns c = λ m all r place whole.
    let types = map item_type c.args.items.now in
    let used = left_end item_type c.args.items.now c.loop-item.item-index (omega arith) in
    row_end types c.args.bytes.now c.loop-item.rest.now c.loop-item.n (rw used at c.loop-item.invariant) m all r place whole
