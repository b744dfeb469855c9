use Rattle.std.proofs.Common.{refl}
use Rattle.std.specs.List.{flat_map, enumerate_from}
use Rattle.kf_cert.proofs.Pieces.{piece_added}
use Rattle.kf_text.specs.BlameViews.{own_without_line}
use Rattle.kf_text.proofs.blame.print_others.Goals as goal

pub loop-i-preserved : goal.loop-i-preserved
loop-i-preserved c =
    piece_added (λ i bs. flat_map own_without_line (enumerate_from i bs)) (λ i b. own_without_line (i, b)) (λ i b bs. refl)
    c.args.others.now c.loop-i.i c.index-others-i.result c.loop-i.out.items c.print_without.new.out.items _ c.loop-i-test.true c.index-others-i.is
    c.in_ok-print_without.ensures c.loop-i.invariant
