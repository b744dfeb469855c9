use Rattle.std.proofs.Common.{◌∙◌, sym, arith}
use Rattle.kf_run.proofs.pushes.asked.Goals as goal

pub merge_both-requires-clause-one_scale : goal.merge_both-requires-clause-one_scale
merge_both-requires-clause-one_scale c = sym (c.in_ok-parted.ensures.scale_left ∙ c.requires.scale)

pub merge_both-requires-clause-fits : goal.merge_both-requires-clause-fits
merge_both-requires-clause-fits c = omega (arith, c.in_ok-parted.ensures.whole, c.requires.fits, c.requires.scale)

pub returns : goal.returns
returns c = (c.in_ok-parted.parted.left, c.in_ok-parted.ensures, c.in_ok-left.ensures.merged, c.in_ok-left.ensures.scale)
