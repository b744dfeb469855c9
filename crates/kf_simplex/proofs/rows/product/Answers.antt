use Rattle.std.proofs.Common.{◌*ℤ◌, FitsSigned}
use Rattle.std.proofs.lemmas.Int.{to_z-of_z}
use mir.Syntax.{w128}
use Rattle.kf_simplex.proofs.FlatRows.{narrow_product_fits, narrow_product_below}
use Rattle.kf_simplex.proofs.rows.product.Goals as goal

pub returns-clause-value : goal.returns-clause-value
returns-clause-value c =
    let a : FitsSigned w128 c.args.a = c.ranges.a in let b : FitsSigned w128 c.args.b = c.ranges.b in
    let f : FitsSigned w128 (c.args.a *ℤ c.args.b) = narrow_product_fits c.args.a c.args.b c.requires.a c.requires.b in
    simp to_z-of_z

pub returns-clause-below : goal.returns-clause-below
returns-clause-below c =
    let a : FitsSigned w128 c.args.a = c.ranges.a in let b : FitsSigned w128 c.args.b = c.ranges.b in
    let f : FitsSigned w128 (c.args.a *ℤ c.args.b) = narrow_product_fits c.args.a c.args.b c.requires.a c.requires.b in
    simp to_z-of_z (narrow_product_below c.args.a c.args.b c.requires.a c.requires.b)
