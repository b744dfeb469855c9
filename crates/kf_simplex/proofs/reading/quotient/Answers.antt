use Rattle.std.proofs.lemmas.Int.{to_z-of_z}
use mir.Syntax.{w128}
use Rattle.kf_simplex.proofs.Quotients.{positive_cast, quotient_fits, quotient_is}
use Rattle.kf_simplex.proofs.reading.quotient.Goals as goal

pub unwrap-requires : goal.unwrap-requires
unwrap-requires c =
    c.make.ensures.fits.1
    (quotient_fits c.args.num c.args.den _ _ (to_z-of_z w128 c.args.num c.ranges.num) (positive_cast c.args.den c.ranges.den c.requires.positive) c.requires.num c.requires.den)

pub returns : goal.returns
returns c =
    quotient_is c.args.num c.args.den _ _ _ _ (to_z-of_z w128 c.args.num c.ranges.num) (positive_cast c.args.den c.ranges.den c.requires.positive)
    (rw c.unwrap.ensures at c.make.ensures.num) (rw c.unwrap.ensures at c.make.ensures.den)
