use Rattle.std.proofs.Common.{[], refl}
use Rattle.std.specs.List.{flat_map, enumerate_from}
use Rattle.kf_hyper.specs.Views.{inner_at, inners_of, scale_of, target_of}
use Rattle.kf_cert.proofs.Pieces.{piece_added}
use Rattle.kf_text.specs.Texts.{inner_lines}
use Rattle.kf_text.proofs.Printing.{read_itself}
use Rattle.kf_text.proofs.hyper.hyper_text.Goals as goal

pub loop-i-preserved : goal.loop-i-preserved
loop-i-preserved c =
    let inners = inners_of c.args.hyper.now in
    let lines = inner_lines (target_of c.args.hyper.now) (scale_of c.args.hyper.now) in
    piece_added (λ i is. flat_map lines (enumerate_from i is)) (λ i inner. lines (i, inner)) (λ i inner is. refl) inners c.loop-i.i (inner_at c.args.hyper.now c.loop-i.i)
    c.loop-i.out.items c.print_inner.new.out.items _ (rw c.count-i-end.ensures at c.loop-i-test.true)
    (read_itself inners c.loop-i.i (record { entries = []; total = 0 })) c.in_ok-print_inner.ensures c.loop-i.invariant
