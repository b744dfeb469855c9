use Rattle.std.proofs.Common.{refl, sym}
use Rattle.std.proofs.Math.Nat.{div-one}
use Rattle.kf_frac.proofs.Twos.{quotient_by_twos}
use Rattle.kf_run.proofs.choices.share_of.Goals as goal

pub returns-then-total-twos-eq1 : goal.returns-then-total-twos-eq1
returns-then-total-twos-eq1 c = quotient_by_twos c.args.total _ c.requires.some c.ranges.total.fits refl c.args.weight _ 1 _ refl (sym c.if-total-twos-eq1.true) (sym (div-one _))
