use Rattle.std.proofs.Common.{map, refl}
use Rattle.std.specs.List.{flat_map}
use Rattle.kf_refine.specs.Views.{fraction_of}
use Rattle.kf_cert.proofs.Pieces.{piece_added}
use Rattle.kf_text.specs.Parts.{fractions_line}
use Rattle.kf_text.proofs.verdict.print_rows.Goals as goal

pub loop-row-preserved : goal.loop-row-preserved
loop-row-preserved c =
    piece_added (λ _ rows. flat_map fractions_line (map (λ row. map fraction_of row) rows)) (λ _ row. fractions_line (map fraction_of row)) (λ _ row rows. refl)
    c.args.rows.now c.loop-row.row-index c.row-item.result c.loop-row.out.items c.print_row.new.out.items _ c.loop-row-test.true c.row-item.is
    c.in_ok-print_row.ensures c.loop-row.invariant
