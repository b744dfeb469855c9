use Rattle.std.proofs.Common.{FitsSigned, arith}
use Rattle.std.proofs.lemmas.Int.{ints, to_z-of_z, to_z_pos}
use mir.Syntax.{w128}
use Rattle.kf_simplex.proofs.FlatRows.{shared_facts}
use Rattle.kf_simplex.proofs.rows.shared.Goals as goal

pub overflow_cast-result : goal.overflow_cast-result
overflow_cast-result c =
    let p : FitsSigned w128 c.args.p = c.ranges.p in let a : FitsSigned w128 c.args.a = c.ranges.a in
    let is = shared_facts c.args.p c.args.a c.unsigned_abs.result c.unsigned_abs-2.result c.gcd.result
    (simp to_z-of_z at c.unsigned_abs.ensures.value) (simp to_z-of_z at c.unsigned_abs-2.ensures.value) c.gcd.ensures c.requires.p c.requires.a in
    omega (arith, ints, is.2)

pub returns-in_default-clause-positive : goal.returns-in_default-clause-positive
returns-in_default-clause-positive c =
    let p : FitsSigned w128 c.args.p = c.ranges.p in let a : FitsSigned w128 c.args.a = c.ranges.a in
    let is = shared_facts c.args.p c.args.a c.unsigned_abs.result c.unsigned_abs-2.result c.gcd.result
    (simp to_z-of_z at c.unsigned_abs.ensures.value) (simp to_z-of_z at c.unsigned_abs-2.ensures.value) c.gcd.ensures c.requires.p c.requires.a in
    omega (arith, ints, is.2)

pub returns-in_default-clause-first : goal.returns-in_default-clause-first
returns-in_default-clause-first c =
    let p : FitsSigned w128 c.args.p = c.ranges.p in let a : FitsSigned w128 c.args.a = c.ranges.a in
    let is = shared_facts c.args.p c.args.a c.unsigned_abs.result c.unsigned_abs-2.result c.gcd.result
    (simp to_z-of_z at c.unsigned_abs.ensures.value) (simp to_z-of_z at c.unsigned_abs-2.ensures.value) c.gcd.ensures c.requires.p c.requires.a in
    rw (to_z_pos w128 c.gcd.result (omega (arith, is.2))) is.0

pub returns-in_default-clause-second : goal.returns-in_default-clause-second
returns-in_default-clause-second c =
    let p : FitsSigned w128 c.args.p = c.ranges.p in let a : FitsSigned w128 c.args.a = c.ranges.a in
    let is = shared_facts c.args.p c.args.a c.unsigned_abs.result c.unsigned_abs-2.result c.gcd.result
    (simp to_z-of_z at c.unsigned_abs.ensures.value) (simp to_z-of_z at c.unsigned_abs-2.ensures.value) c.gcd.ensures c.requires.p c.requires.a in
    rw (to_z_pos w128 c.gcd.result (omega (arith, is.2))) is.1
