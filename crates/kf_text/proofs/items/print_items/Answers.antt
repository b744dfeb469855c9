use Rattle.std.proofs.Common.{arith, ◌-◌, ◌∷◌, [], take, drop, length, codes}
use Rattle.kf_text.proofs.Printing.{behind, first_printed, further_text, one_more}
use Rattle.kf_value.specs.Targets.{target_text}
use Rattle.kf_value.specs.TypeViews.{item_of}
use Rattle.kf_text.proofs.items.print_items.Goals as goal

pub loop-item-init : goal.loop-item-init
loop-item-init c = first_printed c.args.items.now c.first-item.result c.args.out.now.items c.print_item.new.out.items (omega arith) c.first-item.is c.in_ok-print_item.ensures

pub loop-item-preserved : goal.loop-item-preserved
loop-item-preserved c =
    one_more further_text (take (length c.args.items.now - 1) (drop 1 c.args.items.now)) c.loop-item.item-index c.item-item.result
    c.loop-item.out.items c.print_item-in-loop-item.new.out.items _ c.loop-item-test.true c.item-item.is c.loop-item.invariant
    (behind (codes ", ") (target_text (item_of c.item-item.result ∷ [])) _ _ _ c.in_ok-print_bytes.ensures c.in_ok-print_item-2.ensures)
