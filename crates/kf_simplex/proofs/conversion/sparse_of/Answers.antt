use Rattle.std.proofs.Common.{FitsSigned, List, ℤ, ap, ◌∙◌, arith, length}
use Rattle.std.proofs.lemmas.Int.{to_z-of_z, ints}
use Rattle.std.proofs.lemmas.List.Elements.{All-push}
use mir.Syntax.{w64}
use Rattle.kf_simplex.specs.Entries.{IsRowWithin}
use Rattle.kf_simplex.proofs.Converting.{length_read, sides_more, sides_end, same_system}
use Rattle.kf_simplex.proofs.conversion.sparse_of.Goals as goal

pub loop-equation-preserved : goal.loop-equation-preserved
loop-equation-preserved c =
    let p = c.equation-item.result in
    let f : FitsSigned w64 p.rhs = omega (arith, ints, p.rhs_narrow) in
    let len = ap (λ (xs : List ℤ). length xs) c.as_slice.ensures
    ∙ length_read c.args.s.now.unknowns c.args.s.now.rows c.as_slice-equations.result.now c.loop-equation.equation-index p c.as_slice-equations.ensures c.loop-equation-test.true c.equation-item.is c.args.s.now.lengths in
    record {
      same = sides_more c.loop-equation.rows.items c.push.new.self.items c.args.s.now.rows c.as_slice-equations.result.now c.loop-equation.equation-index _ p c.as_slice.result.now
          c.as_slice-equations.ensures c.loop-equation-test.true c.equation-item.is c.in_ok-push.ensures.items c.in_ok-coefs.ensures.numbers c.as_slice.ensures (to_z-of_z w64 p.rhs f)
          c.loop-equation.invariant.same;
      within = rw c.in_ok-push.ensures.items
          (All-push (λ q. IsRowWithin c.args.s.now.unknowns q.coefs.entries.items) c.loop-equation.rows.items _ c.loop-equation.invariant.within (λ j l. omega (arith, len, c.in_ok-coefs.ensures.inside j l)));
    }

pub returns : goal.returns
returns c =
    same_system c.args.s.now.unknowns c.loop-equation.rows.items c.args.s.now.rows
    (sides_end c.loop-equation.rows.items c.args.s.now.rows c.as_slice-equations.result.now c.loop-equation.equation-index c.as_slice-equations.ensures c.loop-equation-test.false c.loop-equation.invariant.same)
