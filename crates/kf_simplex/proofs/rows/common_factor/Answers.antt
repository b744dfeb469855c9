use Rattle.std.proofs.Common.{FitsSigned, rules, ℕ, List, map, length, get_or, arith, subst, sym, ap, ◌∙◌, ◌≡◌, unsigned_abs}
use Rattle.kf_frac.proofs.CommonDivisors.{gcd_is}
use Rattle.std.proofs.lemmas.Int.{to_z-of_z}
use Rattle.std.specs.Int.{IsGcd}
use mir.Syntax.{w128}
use Rattle.kf_simplex.proofs.FlatRows.{gcd_more, gcd_one}
use Rattle.kf_simplex.proofs.Places.{at_numbers}
use Rattle.kf_simplex.specs.declared.row.Entry.{Entry}
use Rattle.kf_simplex.specs.Entries.{no_entry}
use Rattle.kf_simplex.specs.Cells.{IsCommonGcd}
use Rattle.kf_simplex.specs.Base.{at}
use Rattle.kf_simplex.proofs.rows.common_factor.Goals as goal

pub loop-e-preserved : goal.loop-e-preserved
loop-e-preserved c =
    let es : List Entry = c.args.row.now.entries.items in
    let f : FitsSigned w128 (get_or c.as_slice-e-items.result.now c.loop-e.e-index no_entry).number = search rules in
    let e : c.unsigned_abs.result ≡ unsigned_abs (get_or c.as_slice-e-items.result.now c.loop-e.e-index no_entry).number = simp to_z-of_z at c.unsigned_abs.ensures.value in
    let here : c.unsigned_abs.result ≡ unsigned_abs (at (map (λ (e : Entry). e.number) c.args.row.now.entries.items) c.loop-e.e-index) =
    e ∙ ap (λ (xs : List Entry). unsigned_abs (get_or xs c.loop-e.e-index no_entry).number) c.as_slice-e-items.ensures.value ∙ ap unsigned_abs (sym (at_numbers c.args.row.now.entries.items c.loop-e.e-index)) in
    gcd_more (map (λ (e : Entry). e.number) c.args.row.now.entries.items) c.loop-e.e-index c.loop-e.g c.gcd-g.result c.loop-e.invariant
    (subst (λ (z : ℕ). IsGcd c.loop-e.g z c.gcd-g.result) here
    (subst (λ (n : ℕ). IsGcd c.loop-e.g c.unsigned_abs.result n) (sym c.gcd-g.ensures) (gcd_is c.loop-e.g c.unsigned_abs.result)))

pub returns-then-g-eq1 : goal.returns-then-g-eq1
returns-then-g-eq1 c =
    gcd_one (map (λ (e : Entry). e.number) c.args.row.now.entries.items) c.loop-e.e-index (length c.args.row.now.entries.items) (omega (arith, c.loop-e.auto.e-index-end, c.as_slice-e-items.ensures.len))
    (subst (λ (n : ℕ). IsCommonGcd (map (λ (e : Entry). e.number) c.args.row.now.entries.items) c.loop-e.e-index n) c.if-g-eq1.true c.loop-e.invariant)
