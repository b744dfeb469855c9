use Rattle.std.proofs.Common.{rules, FitsSigned, arith}
use Rattle.std.proofs.lemmas.Int.{to_z-of_z, ints}
use mir.Syntax.{w128}
use Rattle.kf_simplex.specs.Base.{at}
use Rattle.kf_simplex.proofs.Entries.{made_ascends}
use Rattle.kf_simplex.proofs.FirstRows.{IsNumber, number_push, number_skip, numbers_whole}
use Rattle.kf_simplex.proofs.building.dense_row.Goals as goal
use Rattle.kf_simplex.proofs.building.dense_row.Goals.{then-numbers-column-ne0+in_ok-push, else-numbers-column-ne0}

pub loop-column-preserved : goal.loop-column-preserved
loop-column-preserved c =
    let f : FitsSigned w128 (at c.args.numbers.now c.loop-column.column) = search rules in
    elim c.if-numbers-column-ne0.branch [
      | then-numbers-column-ne0+in_ok-push w ↦
          rw w.entries-is (number_push c.args.numbers.now c.loop-column.column c.loop-column.entries.items w.push.new.self.items _ w.in_ok-push.ensures.items (simp to_z-of_z) c.loop-column.invariant)
      | else-numbers-column-ne0 w ↦
          rw w.entries-is (number_skip c.args.numbers.now c.loop-column.column c.loop-column.entries.items (omega (arith, ints, w.if-numbers-column-ne0.false)) c.loop-column.invariant)
    ]

pub invariant_of-result : goal.invariant_of-result
invariant_of-result c = record { ascending = made_ascends (IsNumber c.args.numbers.now) c.loop-column.column c.loop-column.entries.items c.loop-column.invariant }

pub returns : goal.returns
returns c = numbers_whole c.args.numbers.now c.loop-column.column c.loop-column.entries.items (omega (arith, c.loop-column-test.false)) c.loop-column.invariant
