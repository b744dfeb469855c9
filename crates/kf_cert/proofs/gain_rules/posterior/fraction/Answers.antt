use Rattle.std.proofs.Common.{◌≡◌, ◌*◌, to_z, of_z, subst, sym}
use Rattle.std.specs.Int.{w128}
use Rattle.std.proofs.lemmas.Int.{to_z-of_z}
use Rattle.kf_frac.specs.Fractions.{reduced_num, reduced_den}
use Rattle.kf_frac.specs.Parts.{PartsFit}
use Rattle.kf_frac.proofs.Scaling.{reduced_fit}
use Rattle.kf_cert.proofs.gain_rules.posterior.fraction.Goals as goal

pub unwrap-requires : goal.unwrap-requires
unwrap-requires c =
    let den = c.args.scale * c.args.over in
    let same : to_z w128 (of_z w128 c.args.n) ≡ c.args.n = to_z-of_z w128 c.args.n c.ranges.n in
    let fit : PartsFit c.args.n den = record { num = c.requires.num; den = c.requires.den } in
    c.make.ensures.fits.1 (subst (λ n. PartsFit (reduced_num n den) (reduced_den n den)) (sym same) (reduced_fit c.args.n den fit))
