use Rattle.std.proofs.Common.{FitsSigned, rules, ◌∙◌}
use Rattle.std.proofs.lemmas.Int.{to_z-of_z}
use mir.Syntax.{w128}
use Rattle.kf_frac.proofs.Scaling.{signed_product}
use Rattle.kf_frac.proofs.arithmetic.times.Goals as goal
use Rattle.kf_frac.specs.Parts.{value_of}

pub returns-clause-value : goal.returns-clause-value
returns-clause-value c =
    let f : FitsSigned w128 c.args.f.num = search rules in
    signed_product c.sign_and_size-negative.result.0 c.args.f.num c.sign_and_size-negative.result.1 c.args.factor (value_of c.new.result)
    (c.sign_and_size-negative.ensures.value ∙ to_z-of_z w128 c.args.f.num f) c.new.ensures
