use Rattle.std.proofs.Common.{rules, FitsSigned, arith}
use Rattle.std.proofs.lemmas.Int.{to_z-of_z, ints}
use mir.Syntax.{w64, w128}
use Rattle.kf_simplex.specs.Base.{at}
use Rattle.kf_simplex.proofs.Entries.{made_ascends, made_inside}
use Rattle.kf_simplex.proofs.FirstRows.{IsNumber, number_push, number_skip, numbers_whole}
use Rattle.kf_simplex.proofs.conversion.row_of.Goals as goal
use Rattle.kf_simplex.proofs.conversion.row_of.Goals.{then-coefs-column-ne0+in_ok-push, else-coefs-column-ne0}

pub loop-column-preserved : goal.loop-column-preserved
loop-column-preserved c =
    let x : FitsSigned w64 (at c.args.coefs.now c.loop-column.column) = search rules in
    let y : FitsSigned w128 (at c.args.coefs.now c.loop-column.column) = omega (arith, ints) in
    elim c.if-coefs-column-ne0.branch [
      | then-coefs-column-ne0+in_ok-push w ↦
          rw w.entries-is (number_push c.args.coefs.now c.loop-column.column c.loop-column.entries.items w.push.new.self.items _ w.in_ok-push.ensures.items (simp to_z-of_z) c.loop-column.invariant)
      | else-coefs-column-ne0 w ↦
          rw w.entries-is (number_skip c.args.coefs.now c.loop-column.column c.loop-column.entries.items (omega (arith, ints, w.if-coefs-column-ne0.false)) c.loop-column.invariant)
    ]

pub invariant_of-result : goal.invariant_of-result
invariant_of-result c = record { ascending = made_ascends (IsNumber c.args.coefs.now) c.loop-column.column c.loop-column.entries.items c.loop-column.invariant }

pub returns-clause-inside : goal.returns-clause-inside
returns-clause-inside c =
    let inside = made_inside (IsNumber c.args.coefs.now) c.loop-column.column c.loop-column.entries.items c.loop-column.invariant in
    λ j l. omega (arith, inside j l, c.loop-column.auto.column-end)

pub returns-clause-numbers : goal.returns-clause-numbers
returns-clause-numbers c = numbers_whole c.args.coefs.now c.loop-column.column c.loop-column.entries.items (omega (arith, c.loop-column-test.false)) c.loop-column.invariant
