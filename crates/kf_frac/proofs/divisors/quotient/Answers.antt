use Rattle.std.proofs.Common.{refl, sym, subst, ◌<◌}
use Rattle.kf_frac.proofs.Twos.{shifted_some, quotient_by_twos}
use Rattle.kf_frac.proofs.divisors.quotient.Goals as goal

pub nonzero_div-a : goal.nonzero_div-a
nonzero_div-a c = subst (λ n. 0 < n) (sym c.in-Ok-Ok.ensures'.1) (shifted_some c.args.b _ c.requires c.ranges.b.fits refl)

pub returns-in-Ok-Ok : goal.returns-in-Ok-Ok
returns-in-Ok-Ok c =
    quotient_by_twos c.args.b _ c.requires c.ranges.b.fits refl c.args.a c.in-Ok-Ok.a c.in-Ok-Ok.b c.from.result c.in-Ok-Ok.ensures.1 c.in-Ok-Ok.ensures'.1 c.from.ensures
