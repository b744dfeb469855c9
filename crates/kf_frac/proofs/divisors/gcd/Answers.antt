use Rattle.kf_frac.proofs.CommonDivisors.{gcd_of_equals}
use Rattle.kf_frac.proofs.Twos.{gcd_by_twos}
use Rattle.kf_frac.proofs.divisors.gcd.Goals as goal

pub returns-then-a-b : goal.returns-then-a-b
returns-then-a-b c = gcd_of_equals c.args.a c.args.b c.if-a-b.true

pub returns : goal.returns
returns c = gcd_by_twos c.args.a c.args.b c.min-twos.result c.wide_gcd.result c.if-a-b.false c.ranges.a.fits c.ranges.b.fits c.min-twos.ensures c.wide_gcd.ensures
