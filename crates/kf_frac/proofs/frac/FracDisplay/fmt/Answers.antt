use Rattle.std.proofs.Common.{rules, FitsSigned, to_z, of_z}
use Rattle.std.proofs.Output.{has_written_of_eq}
use Rattle.std.proofs.lemmas.Grind.{put_two}
use Rattle.std.proofs.lemmas.Int.{to_z-of_z}
use mir.Syntax.{w128}
use Rattle.kf_frac.proofs.LowestTerms.{text_of_whole, text_of_quotient}
use Rattle.kf_frac.proofs.frac.FracDisplay.fmt.Goals as goal

pub returns-in_ok-write-2-clause-writes : goal.returns-in_ok-write-2-clause-writes
returns-in_ok-write-2-clause-writes g c =
    λ plain ok.
    let f : FitsSigned w128 c.args.self.now.num = search rules in
    let first = c.in_ok-write.ensures.writes plain ok in
    put_two _ _ _ _ _ _ _ first (c.in_ok-write-2.ensures.writes (search rules) ok)
    (text_of_quotient c.args.self.now.num (to_z w128 (of_z w128 c.args.self.now.num)) c.args.self.now.den
    c.args.self.now.reduced (to_z-of_z w128 c.args.self.now.num f) c.if-den-ne1.true)

pub returns-else-den-ne1-clause-writes : goal.returns-else-den-ne1-clause-writes
returns-else-den-ne1-clause-writes g c =
    λ plain ok.
    let f : FitsSigned w128 c.args.self.now.num = search rules in
    has_written_of_eq _ _ _ _ _
    (text_of_whole c.args.self.now.num (to_z w128 (of_z w128 c.args.self.now.num)) c.args.self.now.den
    c.args.self.now.reduced (to_z-of_z w128 c.args.self.now.num f) c.if-den-ne1.false)
    (c.in_ok-write.ensures.writes plain ok)
