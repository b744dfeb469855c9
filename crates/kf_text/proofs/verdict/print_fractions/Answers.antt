use Rattle.std.proofs.Common.{arith, ℕ, List, ◌++◌, ◌-◌, map, take, drop, length, codes, refl}
use Rattle.kf_text.proofs.Verdicts.{first_fraction}
use Rattle.std.specs.List.{flat_map}
use Rattle.kf_text.specs.Views.{own_text}
use Rattle.kf_cert.proofs.Pieces.{piece_added}
use Rattle.kf_text.proofs.Printing.{behind}
use Rattle.kf_text.proofs.verdict.print_fractions.Goals as goal

pub loop-fraction-init : goal.loop-fraction-init
loop-fraction-init c = first_fraction c.args.row.now c.first-item.result c.args.out.now.items c.print_frac.new.out.items (omega arith) c.first-item.is c.in_ok-print_frac.ensures

pub loop-fraction-preserved : goal.loop-fraction-preserved
loop-fraction-preserved c =
    piece_added (λ _ fs. flat_map (λ (t : List ℕ). codes " " ++ t) (map own_text fs)) (λ _ f. codes " " ++ own_text f) (λ _ f fs. refl)
    (take (length c.args.row.now - 1) (drop 1 c.args.row.now)) c.loop-fraction.fraction-index c.fraction-item.result
    c.loop-fraction.out.items c.print_frac-in-loop-fraction.new.out.items _ c.loop-fraction-test.true c.fraction-item.is
    (behind (codes " ") (own_text c.fraction-item.result) _ _ _ c.in_ok-print_bytes.ensures c.in_ok-print_frac-2.ensures) c.loop-fraction.invariant
