use Rattle.std.proofs.Common.{◌≡◌, FitsSigned, arith, rules, sym, subst, ◌∙◌, get_or, List}
use Rattle.std.proofs.lemmas.Int.{to_z-of_z}
use Rattle.std.proofs.lemmas.List.{get_or_default}
use mir.Syntax.{w128}
use Rattle.kf_frac.specs.declared.frac.Frac.{Frac}
use Rattle.kf_simplex.specs.Answers.{IsSolutionOf}
use Rattle.kf_simplex.specs.Flat.{cell, tableau_of}
use Rattle.kf_simplex.specs.Turns.{sizes}
use Rattle.kf_simplex.proofs.Quotients.{read_column, read_past}
use Rattle.kf_simplex.proofs.table.Table.solution.Goals as goal
use Rattle.kf_simplex.proofs.table.Table.solution.Goals.{then-column-self, else-column-self}

pub loop-i-preserved : goal.loop-i-preserved
loop-i-preserved c =
    let column : c.index-column.result.now ≡ get_or c.args.self.now.basis.items c.loop-i.i 0 =
    c.index-column.ensures ∙ get_or_default c.args.self.now.basis.items c.loop-i.i c.index-column.result.now 0 (omega (arith, c.args.self.now.basis_len)) in
    elim c.if-column-self.branch [
      | then-column-self w ↦
          let entry : FitsSigned w128 w.cell.result = search rules in
          let right : FitsSigned w128 w.cell-right.result = search rules in
          rw w.values-is
          (read_column (cell c.args.self.now.rows.items) c.args.self.now.basis.items c.args.self.now.unknowns c.args.self.now.equations c.loop-i.values.items c.loop-i.i c.index-column.result.now w.quotient.result
          w.cell.result w.cell-right.result column w.if-column-self.true (λ k l. c.requires.distinct k c.loop-i.i l c.loop-i-test.true) w.cell.ensures w.cell-right.ensures
          (simp to_z-of_z at w.quotient.ensures) c.loop-i.invariant)
      | else-column-self w ↦
          rw w.values-is
          (read_past (cell c.args.self.now.rows.items) c.args.self.now.basis.items c.args.self.now.unknowns c.args.self.now.equations c.loop-i.values.items c.loop-i.i c.index-column.result.now column
          w.if-column-self.false c.loop-i.invariant)
    ]

pub quotient-requires-clause-positive : goal.quotient-requires-clause-positive
quotient-requires-clause-positive c =
    let f : FitsSigned w128 c.cell.result = search rules in
    let column : c.index-column.result.now ≡ get_or c.args.self.now.basis.items c.loop-i.i 0 =
    c.index-column.ensures ∙ get_or_default c.args.self.now.basis.items c.loop-i.i c.index-column.result.now 0 (omega (arith, c.args.self.now.basis_len)) in
    simp to_z-of_z (rw (c.cell.ensures, column) (c.requires.positive c.loop-i.i c.loop-i-test.true (rw column at c.if-column-self.true)))

pub quotient-requires-clause-num : goal.quotient-requires-clause-num
quotient-requires-clause-num c =
    let f : FitsSigned w128 c.cell-right.result = search rules in
    simp to_z-of_z (rw c.cell-right.ensures (c.requires.narrow _ _))

pub quotient-requires-clause-den : goal.quotient-requires-clause-den
quotient-requires-clause-den c =
    let f : FitsSigned w128 c.cell.result = search rules in
    simp to_z-of_z (rw c.cell.ensures (c.requires.narrow _ _))

pub returns : goal.returns
returns c =
    let all : c.loop-i.i ≡ c.args.self.now.equations = omega arith in
    subst (λ (xs : List Frac). IsSolutionOf (sizes c.args.self.now.unknowns c.args.self.now.equations) (tableau_of (sizes c.args.self.now.unknowns c.args.self.now.equations) (cell c.args.self.now.rows.items) c.args.self.now.basis.items) xs)
    (sym c.new.ensures)
    (record {
      len = c.loop-i.invariant.len;
      basic = λ i l. c.loop-i.invariant.basic i (omega arith);
      not_basic = λ j l no. c.loop-i.invariant.not_basic j l (λ k m. no k (omega arith));
    })
