use Rattle.std.proofs.Common.{◌≡◌, ◌≤◌, map, length, arith}
use Rattle.kf_ast.specs.Views.{item_tree}
use Rattle.kf_check.specs.Variables.{variables_in}
use Rattle.kf_check.proofs.Left.{passed}
use Rattle.kf_check.proofs.DeclFacts.{facts_of}
use Rattle.kf_check.proofs.ItemTurns.{items_none}
use Rattle.kf_check.proofs.TargetTurns as turn
use Rattle.kf_check.proofs.targets.check_items.Goals as goal

pub loop-i-init : goal.loop-i-init
loop-i-init c =
    rw (c.new-2.ensures.items, c.new.ensures.items, c.new-3.ensures.items)
    (items_none (variables_in c.args.declared.now) (map item_tree c.args.items.now) c.args.declared.now.stores (facts_of (variables_in c.args.declared.now) c.requires.declared).few c.requires.counted)

pub returns-in_err-item : goal.returns-in_err-item
returns-in_err-item c =
    let many : c.len.result ≡ length c.loop-i.read.copies.items = omega arith in
    rw (passed c.from_residual.result c.in_err-item.field-0.0 c.from_residual.ensures.1)
    (turn.item_breaks (variables_in c.args.declared.now) c.args.items.now c.loop-i.i c.loop-i.read.copies.items c.loop-i.read.slots.items c.loop-i.read.items.items c.loop-i.read.stores c.loop-i.invariant
    c.index-items-i.result (omega arith) c.index-items-i.is c.len.result many c.in_err-item.field-0.0 c.in_err-item.ensures.answer)

pub loop-i-preserved : goal.loop-i-preserved
loop-i-preserved c =
    let many : c.len.result ≡ length c.loop-i.read.copies.items = omega arith in
    rw (c.in_ok-push_item.ensures.copies, c.in_ok-push_item.ensures.items, c.in_ok-push_item.ensures.slots, c.in_ok-push_item.ensures.stores)
    (turn.item_turn (variables_in c.args.declared.now) c.args.items.now c.loop-i.i c.loop-i.read.copies.items c.loop-i.read.slots.items c.loop-i.read.items.items c.loop-i.read.stores c.loop-i.invariant
    c.index-items-i.result (omega arith) c.index-items-i.is c.len.result many c.in_ok-item.item c.in_ok-item.ensures.answer c.in_ok-item.ensures.counted c.in_ok-item.ensures.few)

pub invariant_of-result : goal.invariant_of-result
invariant_of-result c =
    let past : length c.args.items.now ≤ c.loop-i.i = omega arith in
    let suits = turn.items_end_suit (variables_in c.args.declared.now) c.args.items.now c.loop-i.i c.loop-i.read.copies.items c.loop-i.read.slots.items c.loop-i.read.items.items c.loop-i.read.stores c.loop-i.invariant past c.requires.declared in
    let many = turn.items_end_many (variables_in c.args.declared.now) c.args.items.now c.loop-i.i c.loop-i.read.copies.items c.loop-i.read.slots.items c.loop-i.read.items.items c.loop-i.read.stores c.loop-i.invariant past in
    rw c.new-4.ensures (record { some = omega (arith, c.requires.some); formed = suits.formed; sized = suits.sized; fits = suits.fits })

pub returns : goal.returns
returns c =
    rw (c.new-4.ensures, c.new-5.ensures, c.new-6.ensures)
    (turn.items_end (variables_in c.args.declared.now) c.args.items.now c.loop-i.i c.loop-i.read.copies.items c.loop-i.read.slots.items c.loop-i.read.items.items c.loop-i.read.stores c.loop-i.invariant (omega arith) c.requires.some)
