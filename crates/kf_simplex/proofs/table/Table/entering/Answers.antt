use Rattle.std.proofs.Common.{◌≡◌, FitsSigned, rules, arith, pos, get_or, ◌∙◌}
use Rattle.std.proofs.lemmas.Int.{to_z-of_z, ints}
use lib.Signed.{◌<ℤ◌, ◌≤ℤ◌}
use mir.Syntax.{w128}
use Rattle.kf_simplex.specs.Entries.{no_entry}
use Rattle.kf_simplex.specs.Flat.{entries_at}
use Rattle.kf_simplex.proofs.Crossing.{head_here}
use Rattle.kf_simplex.proofs.Merging.{none_at_all, none_before, none_more}
use Rattle.kf_simplex.proofs.Reducing.{entries_read}
use Rattle.kf_simplex.proofs.table.Table.entering.Goals as goal

pub returns-then-e-self : goal.returns-then-e-self
returns-then-e-self c =
    let f : FitsSigned w128 (get_or c.as_slice-e-items.result.now c.loop-e.e-index no_entry).number = search rules in
    let p : pos 0 <ℤ (get_or c.as_slice-e-items.result.now c.loop-e.e-index no_entry).number = omega (arith, ints, simp to_z-of_z at c.if-e-gt0.true) in
    let same : c.as_slice-e-items.result.now ≡ entries_at c.args.self.now.rows.items c.args.self.now.equations =
    c.as_slice-e-items.ensures.value ∙ entries_read c.args.self.now.rows.items c.args.self.now.equations c.index.result.now (omega (arith, c.args.self.now.rows_len)) c.index.ensures in
    let row = entries_at c.args.self.now.rows.items c.args.self.now.equations in (
      c.if-e-self.true,
      rw (head_here row c.as_slice-e-items.result.now c.loop-e.e-index c.loop-e.invariant.0 same c.loop-e-test.true c.loop-e.invariant.1) p,
      none_before row c.as_slice-e-items.result.now c.loop-e.e-index c.loop-e.invariant.0 same c.loop-e-test.true c.loop-e.invariant.1 c.loop-e.invariant.2,
    )

pub returns-else-e-self : goal.returns-else-e-self
returns-else-e-self c =
    let same : c.as_slice-e-items.result.now ≡ entries_at c.args.self.now.rows.items c.args.self.now.equations =
    c.as_slice-e-items.ensures.value ∙ entries_read c.args.self.now.rows.items c.args.self.now.equations c.index.result.now (omega (arith, c.args.self.now.rows_len)) c.index.ensures in
    let row = entries_at c.args.self.now.rows.items c.args.self.now.equations in
    let before = none_before row c.as_slice-e-items.result.now c.loop-e.e-index c.loop-e.invariant.0 same c.loop-e-test.true c.loop-e.invariant.1 c.loop-e.invariant.2 in
    λ j l. before j (omega (arith, c.if-e-self.false, l))

pub loop-e-preserved : goal.loop-e-preserved
loop-e-preserved c =
    let f : FitsSigned w128 (get_or c.as_slice-e-items.result.now c.loop-e.e-index no_entry).number = search rules in
    let p : (get_or c.as_slice-e-items.result.now c.loop-e.e-index no_entry).number ≤ℤ pos 0 = omega (arith, ints, simp to_z-of_z at c.if-e-gt0.false) in
    let same : c.as_slice-e-items.result.now ≡ entries_at c.args.self.now.rows.items c.args.self.now.equations =
    c.as_slice-e-items.ensures.value ∙ entries_read c.args.self.now.rows.items c.args.self.now.equations c.index.result.now (omega (arith, c.args.self.now.rows_len)) c.index.ensures in
    none_more (entries_at c.args.self.now.rows.items c.args.self.now.equations) c.as_slice-e-items.result.now c.loop-e.e-index c.loop-e.invariant.0 same c.loop-e-test.true p c.loop-e.invariant.1 c.loop-e.invariant.2

pub returns : goal.returns
returns c =
    let same : c.as_slice-e-items.result.now ≡ entries_at c.args.self.now.rows.items c.args.self.now.equations =
    c.as_slice-e-items.ensures.value ∙ entries_read c.args.self.now.rows.items c.args.self.now.equations c.index.result.now (omega (arith, c.args.self.now.rows_len)) c.index.ensures in
    λ j l. none_at_all (entries_at c.args.self.now.rows.items c.args.self.now.equations) c.as_slice-e-items.result.now c.loop-e.e-index c.loop-e.invariant.0 same (omega arith) c.loop-e.invariant.1 c.loop-e.invariant.2 j
