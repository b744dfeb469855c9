use Rattle.kf_refine.proofs.Pushing.{whole_some, whole_narrow, share_narrow, share_some}
use Rattle.kf_refine.proofs.kept.share.Goals as goal

pub total-requires-2 : goal.total-requires-2
total-requires-2 c = rw c.inner.ensures.kept (whole_narrow c.args.h.now c.args.i c.requires)

pub nonzero_div-result : goal.nonzero_div-result
nonzero_div-result c = rw (c.total-2.ensures, c.inner.ensures.kept) (whole_some c.args.h.now c.args.i c.requires)

pub returns-clause-some : goal.returns-clause-some
returns-clause-some c = rw (c.total.ensures, c.total-2.ensures, c.inner.ensures.kept) (share_some c.args.h.now c.args.i c.requires)

pub returns-clause-fits : goal.returns-clause-fits
returns-clause-fits c = rw (c.total.ensures, c.total-2.ensures, c.inner.ensures.kept) (share_narrow c.args.h.now c.args.i c.requires)
