use Rattle.std.proofs.Common.{rules, sym, subst}
use Rattle.std.proofs.lemmas.Int.{to_z-of_z}
use mir.Syntax.{w128}
use Rattle.kf_frac.specs.Fractions.{reduced_num, reduced_den}
use Rattle.kf_frac.specs.Parts.{PartsFit}
use Rattle.kf_frac.proofs.Scaling.{reduced_fit}
use Rattle.kf_cert.proofs.numerals.lowest.Goals as goal

pub unwrap-requires : goal.unwrap-requires
unwrap-requires c =
    c.make.ensures.fits.1
    (subst (λ n. PartsFit (reduced_num n c.args.den) (reduced_den n c.args.den)) (sym (to_z-of_z w128 c.args.num (search rules)))
    (reduced_fit c.args.num c.args.den (record { num = c.requires.num; den = c.requires.den })))
