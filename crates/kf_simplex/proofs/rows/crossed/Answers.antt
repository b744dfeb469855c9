use Rattle.std.proofs.Common.{◌-ℤ◌, FitsSigned, arith, rules}
use Rattle.std.proofs.lemmas.Int.{to_z-of_z, ints}
use mir.Syntax.{w128}
use Rattle.kf_simplex.proofs.FlatRows.{passed_narrow}
use Rattle.kf_simplex.proofs.rows.crossed.Goals as goal

pub product-requires-clause-a : goal.product-requires-clause-a
product-requires-clause-a c = passed_narrow c.args.p c.ranges.p c.requires.p

pub product-requires-clause-b : goal.product-requires-clause-b
product-requires-clause-b c = passed_narrow c.args.x c.ranges.x c.requires.x

pub product-requires-2-clause-a : goal.product-requires-2-clause-a
product-requires-2-clause-a c = passed_narrow c.args.a c.ranges.a c.requires.a

pub product-requires-2-clause-b : goal.product-requires-2-clause-b
product-requires-2-clause-b c = passed_narrow c.args.y c.ranges.y c.requires.y

pub returns-clause-value : goal.returns-clause-value
returns-clause-value c =
    let p : FitsSigned w128 c.args.p = c.ranges.p in let a : FitsSigned w128 c.args.a = c.ranges.a in
    let x : FitsSigned w128 c.args.x = c.ranges.x in let y : FitsSigned w128 c.args.y = c.ranges.y in
    let l : FitsSigned w128 c.product.result = search rules in let r : FitsSigned w128 c.product-2.result = search rules in
    let f : FitsSigned w128 (c.product.result -ℤ c.product-2.result) = omega (arith, ints, c.product.ensures.below, c.product-2.ensures.below) in
    simp to_z-of_z (let u = simp to_z-of_z at c.product.ensures.value in let v = simp to_z-of_z at c.product-2.ensures.value in omega (arith, ints))

pub returns-clause-below : goal.returns-clause-below
returns-clause-below c =
    let l : FitsSigned w128 c.product.result = search rules in let r : FitsSigned w128 c.product-2.result = search rules in
    let f : FitsSigned w128 (c.product.result -ℤ c.product-2.result) = omega (arith, ints, c.product.ensures.below, c.product-2.ensures.below) in
    simp to_z-of_z (omega (arith, ints, c.product.ensures.below, c.product-2.ensures.below))
