use Rattle.std.proofs.Common.{◌≡◌, to_z, of_z, subst, sym}
use Rattle.std.specs.Int.{w128}
use Rattle.std.proofs.lemmas.Int.{to_z-of_z}
use Rattle.kf_frac.specs.Fractions.{reduced_num, reduced_den}
use Rattle.kf_frac.specs.Parts.{PartsFit}
use Rattle.kf_frac.proofs.Scaling.{reduced_fit}
use Rattle.kf_attack.proofs.fractions.fraction.Goals as goal

pub unwrap-requires : goal.unwrap-requires
unwrap-requires c =
    let whole = c.args.whole in
    let same : to_z w128 (of_z w128 c.args.n) ≡ c.args.n = to_z-of_z w128 c.args.n c.ranges.n in
    let fit : PartsFit c.args.n whole = record { num = c.requires.num; den = c.requires.den } in
    c.make.ensures.fits.1 (subst (λ n. PartsFit (reduced_num n whole) (reduced_den n whole)) (sym same) (reduced_fit c.args.n whole fit))
