use Rattle.std.proofs.Common.{◌≡◌, pos, to_z, arith, subst, sym}
use Rattle.std.specs.Int.{w128}
use Rattle.std.proofs.lemmas.Int.{ints}
use Rattle.kf_frac.specs.Fractions.{reduced_num, reduced_den}
use Rattle.kf_frac.specs.Parts.{PartsFit}
use Rattle.kf_frac.proofs.Scaling.{reduced_fit}
use Rattle.kf_frac.proofs.shares.share.Goals as goal

pub unwrap-requires : goal.unwrap-requires
unwrap-requires c =
    let same : to_z w128 c.args.part ≡ pos c.args.part = omega (arith, ints) in
    let fit : PartsFit (pos c.args.part) c.args.whole = record { num = omega (arith, ints); den = c.requires.narrow } in
    c.make.ensures.fits.1
    (subst (λ n. PartsFit (reduced_num n c.args.whole) (reduced_den n c.args.whole)) (sym same) (reduced_fit (pos c.args.part) c.args.whole fit))
