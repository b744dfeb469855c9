use Rattle.std.proofs.Common.{◌≡◌, ℕ, ◌+◌, ◌≤◌, ◌^◌, FitsSigned, unsigned_abs, to_z, of_z, arith, rules, sym, ◌∙◌, subst, List}
use Rattle.std.proofs.Math.IntN.{ℤ}
use Rattle.std.proofs.lemmas.Int.{to_z-of_z, ints}
use mir.Syntax.{w64, w128}
use Rattle.kf_simplex.specs.Answers.{AreMultipliersOf}
use Rattle.kf_simplex.specs.Flat.{cell, tableau_of}
use Rattle.kf_simplex.specs.Turns.{sizes}
use Rattle.kf_simplex.proofs.Quotients.{push_more, length-push}
use Rattle.kf_simplex.proofs.table.Table.multipliers.Goals as goal

pub loop-k-preserved : goal.loop-k-preserved
loop-k-preserved c =
    let f : ℕ → ℤ = λ j. cell c.args.self.now.rows.items c.args.self.now.equations (c.args.self.now.unknowns + j) in
    let narrow : unsigned_abs c.cell.result ≤ 2 ^ 62 =
    subst (λ (z : ℤ). unsigned_abs z ≤ 2 ^ 62) (sym c.cell.ensures) (c.requires c.args.self.now.equations (c.args.self.now.unknowns + c.loop-k.k)) in
    let wide : FitsSigned w128 c.cell.result = search rules in
    let fits : FitsSigned w64 c.cell.result = omega (arith, ints) in
    let last : to_z w64 (of_z w64 (to_z w128 (of_z w128 c.cell.result))) ≡ c.cell.result = simp to_z-of_z in
    record {
      len = length-push c.loop-k.numbers.items c.push.new.self.items _ c.loop-k.k c.in_ok-push.ensures.items c.loop-k.invariant.len;
      entries = push_more c.loop-k.numbers.items c.push.new.self.items _ c.loop-k.k f c.in_ok-push.ensures.items c.loop-k.invariant.len (last ∙ c.cell.ensures) c.loop-k.invariant.entries;
    }

pub returns : goal.returns
returns c =
    let all : c.loop-k.k ≡ c.args.self.now.equations = omega arith in
    subst (λ (ys : List ℤ). AreMultipliersOf (sizes c.args.self.now.unknowns c.args.self.now.equations) (tableau_of (sizes c.args.self.now.unknowns c.args.self.now.equations) (cell c.args.self.now.rows.items) c.args.self.now.basis.items) ys) (sym c.new.ensures)
    (record { len = c.loop-k.invariant.len ∙ all; entries = λ k l. c.loop-k.invariant.entries k (omega arith) })
