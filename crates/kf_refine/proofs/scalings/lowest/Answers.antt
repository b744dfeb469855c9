use Rattle.std.proofs.Common.{ℕ, ◌<◌, ◌/◌, subst, sym}
use Rattle.kf_frac.specs.Divisors.{gcd_of}
use Rattle.kf_frac.proofs.CommonDivisors.{gcd_is, gcd_positive}
use Rattle.kf_refine.specs.Built.{InLowest}
use Rattle.kf_refine.proofs.Scaled.{in_lowest, quotient_some}
use Rattle.kf_refine.proofs.scalings.lowest.Goals as goal

pub nonzero_div-result : goal.nonzero_div-result
nonzero_div-result c = rw c.gcd-common.ensures (gcd_positive c.args.x c.args.y c.requires.y)

pub nonzero_div-result-2 : goal.nonzero_div-result-2
nonzero_div-result-2 c = rw c.gcd-common.ensures (gcd_positive c.args.x c.args.y c.requires.y)

pub returns-clause-lowest : goal.returns-clause-lowest
returns-clause-lowest c =
    subst (λ (g : ℕ). InLowest c.args.x c.args.y (c.args.x / g) (c.args.y / g)) (sym c.gcd-common.ensures) (in_lowest c.args.x c.args.y c.requires.y)

pub returns-clause-left : goal.returns-clause-left
returns-clause-left c =
    subst (λ (g : ℕ). 0 < c.args.x / g) (sym c.gcd-common.ensures)
    (quotient_some (gcd_of c.args.x c.args.y) c.args.x (gcd_is c.args.x c.args.y).0 c.requires.x)

pub returns-clause-right : goal.returns-clause-right
returns-clause-right c =
    subst (λ (g : ℕ). 0 < c.args.y / g) (sym c.gcd-common.ensures)
    (quotient_some (gcd_of c.args.x c.args.y) c.args.y (gcd_is c.args.x c.args.y).1 c.requires.y)
