use Rattle.kf_make.proofs.Lines.{one_more}
use Rattle.kf_make.proofs.source.make_source.Goals as goal

pub loop-done-preserved : goal.loop-done-preserved
loop-done-preserved c =
    one_more c.loop-done.done c.loop-done.text.items _ c.loop-done.invariant c.in_ok-extend_from_slice-2.ensures.items
