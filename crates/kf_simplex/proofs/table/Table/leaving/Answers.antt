use Rattle.std.proofs.Common.{◌+◌, ◌≡◌, arith, ℕ, List, pos, ap, ◌∙◌, subst, FitsSigned, rules}
use Rattle.std.proofs.lemmas.Int.{to_z-of_z, ints}
use lib.Signed.{◌<ℤ◌, ◌≤ℤ◌}
use mir.Syntax.{w128}
use Rattle.kf_simplex.specs.declared.row.Entry.{Entry}
use Rattle.kf_simplex.specs.Entries.{number_in}
use Rattle.kf_simplex.specs.Flat.{cell}
use Rattle.kf_simplex.proofs.Reducing.{entries_read}
use Rattle.kf_simplex.proofs.RowOrder.{leaving_skip, leaving_first, leaving_less, leaving_not_less}
use Rattle.kf_simplex.proofs.table.Table.leaving.Goals as goal
use Rattle.kf_simplex.proofs.table.Table.leaving.Goals.{then-number_at-gt0+in-None, then-number_at-gt0+in-Some+in-Less, then-number_at-gt0+in-Some+in_default, else-number_at-gt0}
use Rattle.kf_simplex.specs.Cells.{IsLeaving}

pub loop-i-preserved : goal.loop-i-preserved
loop-i-preserved c =
    let width = c.args.self.now.unknowns + c.args.self.now.equations + 1 in
    let f : FitsSigned w128 c.number_at.result = search rules in
    let cells = cell c.args.self.now.rows.items in
    let entry : c.number_at.result ≡ cell c.args.self.now.rows.items c.loop-i.i c.args.c =
    c.number_at.ensures
    ∙ ap (λ (es : List Entry). number_in es c.args.c) (entries_read c.args.self.now.rows.items c.loop-i.i c.index.result.now (omega (arith, c.args.self.now.rows_len, c.loop-i-test.true)) c.index.ensures) in
    elim c.if-number_at-gt0.branch [
      | then-number_at-gt0+in-None w ↦
          let p : pos 0 <ℤ c.number_at.result = omega (arith, ints, simp to_z-of_z at w.if-number_at-gt0.true) in
          rw w.best-is (leaving_first cells width c.args.self.now.unknowns c.args.c c.loop-i.i (rw (← entry) p) (rw w.in-None.is at c.loop-i.invariant))
      | then-number_at-gt0+in-Some+in-Less w ↦
          let p : pos 0 <ℤ c.number_at.result = omega (arith, ints, simp to_z-of_z at w.if-number_at-gt0.true) in
          rw w.best-is (leaving_less cells width c.args.self.now.unknowns c.args.c c.loop-i.i w.in-Some.r (rw (← entry) p) w.in-Less.ensures (rw w.in-Some.is at c.loop-i.invariant))
      | then-number_at-gt0+in-Some+in_default w ↦
          let p : pos 0 <ℤ c.number_at.result = omega (arith, ints, simp to_z-of_z at w.if-number_at-gt0.true) in
          rw w.best-is (leaving_not_less cells width c.args.self.now.unknowns c.args.c c.loop-i.i w.in-Some.r w.row_order.result (rw (← entry) p) w.row_order.ensures w.in_default.not-Less (rw w.in-Some.is at c.loop-i.invariant))
      | else-number_at-gt0 w ↦
          let p : c.number_at.result ≤ℤ pos 0 = omega (arith, ints, simp to_z-of_z at w.if-number_at-gt0.false) in
          rw w.best-is (leaving_skip cells width c.args.self.now.unknowns c.args.c c.loop-i.i c.loop-i.best (rw (← entry) p) c.loop-i.invariant)
    ]

pub returns : goal.returns
returns c =
    let e : c.loop-i.i ≡ c.args.self.now.equations = omega arith in
    subst (λ (k : ℕ). IsLeaving (cell c.args.self.now.rows.items) (c.args.self.now.unknowns + c.args.self.now.equations + 1) c.args.self.now.unknowns c.args.c k c.loop-i.best) e c.loop-i.invariant
