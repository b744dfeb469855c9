use Rattle.std.proofs.Common.{◌+◌, FitsSigned, arith, refl}
use Rattle.std.proofs.lemmas.Int.{to_z-of_z, ints}
use mir.Syntax.{w64, w128}
use Rattle.kf_simplex.specs.Entries.{number_in}
use Rattle.kf_simplex.proofs.Entries.{IsMade, made_ascends, made_inside}
use Rattle.kf_simplex.proofs.FirstRows.{IsEntry, coefs_made, own_push, right_push, right_skip, equation_whole}
use Rattle.kf_simplex.proofs.building.equation_row.Goals as goal
use Rattle.kf_simplex.proofs.building.equation_row.Goals.{then-equation-ne0+in_ok-push-2, else-equation-ne0}

pub invariant_of-result : goal.invariant_of-result
invariant_of-result c =
    let q = c.args.equation in
    let r : FitsSigned w64 q.rhs = omega (arith, ints, q.rhs_narrow) in
    let r' : FitsSigned w128 q.rhs = omega (arith, ints) in
    let own = own_push c.args.unknowns (number_in q.coefs.entries.items) q.rhs c.args.equations c.args.k q.coefs.entries.items c.push.new.self.items _ c.in_ok-push.ensures.items c.requires.equation refl
    (coefs_made c.args.unknowns q.rhs c.args.equations c.args.k q.coefs.entries.items q.coefs.ascending c.requires.within) in
    let made : IsMade (IsEntry c.args.unknowns (number_in q.coefs.entries.items) q.rhs c.args.equations c.args.k) (c.args.unknowns + c.args.equations + 1) c.if-equation-ne0.entries.items = elim c.if-equation-ne0.branch [
      | then-equation-ne0+in_ok-push-2 w ↦
          rw w.entries-is
          (right_push c.args.unknowns (number_in q.coefs.entries.items) q.rhs c.args.equations c.args.k c.push.new.self.items w.push-then-equation-ne0.new.self.items _ w.in_ok-push-2.ensures.items c.requires.equation (simp to_z-of_z) own)
      | else-equation-ne0 w ↦
          rw w.entries-is
          (right_skip c.args.unknowns (number_in q.coefs.entries.items) q.rhs c.args.equations c.args.k c.push.new.self.items c.requires.equation (omega (arith, ints, w.if-equation-ne0.false)) own)
    ] in
    record { ascending = made_ascends (IsEntry c.args.unknowns (number_in q.coefs.entries.items) q.rhs c.args.equations c.args.k) (c.args.unknowns + c.args.equations + 1) c.if-equation-ne0.entries.items made }

pub returns-clause-inside : goal.returns-clause-inside
returns-clause-inside c =
    let q = c.args.equation in
    let r : FitsSigned w64 q.rhs = omega (arith, ints, q.rhs_narrow) in
    let r' : FitsSigned w128 q.rhs = omega (arith, ints) in
    let own = own_push c.args.unknowns (number_in q.coefs.entries.items) q.rhs c.args.equations c.args.k q.coefs.entries.items c.push.new.self.items _ c.in_ok-push.ensures.items c.requires.equation refl
    (coefs_made c.args.unknowns q.rhs c.args.equations c.args.k q.coefs.entries.items q.coefs.ascending c.requires.within) in
    let made : IsMade (IsEntry c.args.unknowns (number_in q.coefs.entries.items) q.rhs c.args.equations c.args.k) (c.args.unknowns + c.args.equations + 1) c.if-equation-ne0.entries.items = elim c.if-equation-ne0.branch [
      | then-equation-ne0+in_ok-push-2 w ↦
          rw w.entries-is
          (right_push c.args.unknowns (number_in q.coefs.entries.items) q.rhs c.args.equations c.args.k c.push.new.self.items w.push-then-equation-ne0.new.self.items _ w.in_ok-push-2.ensures.items c.requires.equation (simp to_z-of_z) own)
      | else-equation-ne0 w ↦
          rw w.entries-is
          (right_skip c.args.unknowns (number_in q.coefs.entries.items) q.rhs c.args.equations c.args.k c.push.new.self.items c.requires.equation (omega (arith, ints, w.if-equation-ne0.false)) own)
    ] in
    made_inside (IsEntry c.args.unknowns (number_in q.coefs.entries.items) q.rhs c.args.equations c.args.k) (c.args.unknowns + c.args.equations + 1) c.if-equation-ne0.entries.items made

pub returns-clause-numbers : goal.returns-clause-numbers
returns-clause-numbers c =
    let q = c.args.equation in
    let r : FitsSigned w64 q.rhs = omega (arith, ints, q.rhs_narrow) in
    let r' : FitsSigned w128 q.rhs = omega (arith, ints) in
    let own = own_push c.args.unknowns (number_in q.coefs.entries.items) q.rhs c.args.equations c.args.k q.coefs.entries.items c.push.new.self.items _ c.in_ok-push.ensures.items c.requires.equation refl
    (coefs_made c.args.unknowns q.rhs c.args.equations c.args.k q.coefs.entries.items q.coefs.ascending c.requires.within) in
    let made : IsMade (IsEntry c.args.unknowns (number_in q.coefs.entries.items) q.rhs c.args.equations c.args.k) (c.args.unknowns + c.args.equations + 1) c.if-equation-ne0.entries.items = elim c.if-equation-ne0.branch [
      | then-equation-ne0+in_ok-push-2 w ↦
          rw w.entries-is
          (right_push c.args.unknowns (number_in q.coefs.entries.items) q.rhs c.args.equations c.args.k c.push.new.self.items w.push-then-equation-ne0.new.self.items _ w.in_ok-push-2.ensures.items c.requires.equation (simp to_z-of_z) own)
      | else-equation-ne0 w ↦
          rw w.entries-is
          (right_skip c.args.unknowns (number_in q.coefs.entries.items) q.rhs c.args.equations c.args.k c.push.new.self.items c.requires.equation (omega (arith, ints, w.if-equation-ne0.false)) own)
    ] in
    equation_whole c.args.unknowns (number_in q.coefs.entries.items) q.rhs c.args.equations c.args.k c.if-equation-ne0.entries.items c.requires.equation made
