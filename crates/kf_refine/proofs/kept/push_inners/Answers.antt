use Rattle.std.proofs.Common.{◌∙◌, arith}
use Rattle.kf_hyper.specs.Views.{inners_of}
use Rattle.kf_refine.proofs.Pushing.{inners_step}
use Rattle.kf_refine.proofs.kept.push_inners.Goals as goal

pub loop-i-preserved : goal.loop-i-preserved
loop-i-preserved c =
    inners_step c.args.first (inners_of c.args.h.now) c.loop-i.i c.args.rows.now.entries c.loop-i.rows.entries c.loop-i.invariant c.share-times.result c.as_slice.result.now
    c.push_shares.new.rows.entries (omega (arith, c.count-i-end.ensures, c.loop-i-test.true)) c.share-times.ensures.is (c.as_slice.ensures ∙ (c.entries.ensures.kept ∙ c.inner.ensures.kept)) c.in_ok-push_shares.ensures.rows c.in_ok-push_shares.ensures.filled
