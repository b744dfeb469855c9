use Rattle.std.proofs.Common.{FitsSigned, ◌≡◌, ℕ, ℤ, pos, ◌+◌, ◌*◌, ◌<◌, ◌+ℤ◌, ◌*ℤ◌, ◌≤◌, ◌^◌, to_z, of_z, unsigned_abs, refl, ap, ◌∙◌, sym, subst, arith, rules, length, List, All}
use Rattle.std.proofs.lemmas.Int.{to_z-of_z, ints}
use Rattle.std.specs.Int.{◌∣◌}
use mir.Syntax.{w64, w128}
use Rattle.kf_gain.specs.declared.table.GainEntry.{GainEntry}
use Rattle.kf_simplex.specs.Base.{at}
use Rattle.kf_refine.proofs.Tabling.{gains_more, action_made, place_below, shifted_abs}
use Rattle.kf_refine.proofs.multipliers.action.Goals.{In-loop-q, After-shifted}
use Rattle.kf_refine.proofs.multipliers.action.Goals as goal

place : (c : In-loop-q) → c.loop-q.q * c.args.inners + c.args.j < length c.args.multipliers.now
place c = rw c.requires.len (place_below (length c.args.kept.now) c.args.inners c.loop-q.q c.args.j c.loop-q-test.true c.requires.inner)

read : (c : After-shifted)
    → to_z w64 (of_z w64 (at c.args.multipliers.now (c.loop-q.q * c.args.inners + c.args.j))) ≡ at c.args.multipliers.now
    (c.loop-q.q * c.args.inners + c.args.j)
read c =
    let f : FitsSigned w64 (at c.args.multipliers.now (c.loop-q.q * c.args.inners + c.args.j)) = search rules in
    to_z-of_z w64 (at c.args.multipliers.now (c.loop-q.q * c.args.inners + c.args.j)) f

pub overflow_mul-q : goal.overflow_mul-q
overflow_mul-q c = omega (arith, place (goal.at.overflow_mul-q c).In-loop-q)

pub overflow_add-q : goal.overflow_add-q
overflow_add-q c = omega (arith, place (goal.at.overflow_add-q c).In-loop-q)

pub bounds-multipliers-q : goal.bounds-multipliers-q
bounds-multipliers-q c = place (goal.at.bounds-multipliers-q c).In-loop-q

pub share-gain-requires-clause-divides : goal.share-gain-requires-clause-divides
share-gain-requires-clause-divides c =
    let e = shifted_abs _ _ c.args.shift c.shifted.result (read c) c.shifted.ensures in
    subst (λ (z : ℕ). c.args.factor ∣ z) (sym e)
    (c.requires.divides (c.loop-q.q * c.args.inners + c.args.j) (place (goal.at.share-gain-requires-clause-divides c).In-loop-q))

pub loop-q-preserved : goal.loop-q-preserved
loop-q-preserved c =
    let g : FitsSigned w128 c.share-gain.result = let n = c.share-gain.ensures.narrow in omega (arith, ints) in
    let same = to_z-of_z w128 c.share-gain.result g in
    rw c.in_ok-push.ensures.items
    (gains_more c.args.kept.now c.args.inners c.args.multipliers.now c.args.shift c.args.factor c.args.j c.loop-q.q c.loop-q.gains.items _
    c.loop-q-test.true refl
    (ap (λ (z : ℤ). pos c.args.factor *ℤ z) same ∙ c.share-gain.ensures.value ∙ c.shifted.ensures ∙ ap (λ (z : ℤ). z +ℤ pos c.args.shift) (read
    (goal.at.loop-q-preserved c).After-shifted))
    (subst (λ (z : ℤ). unsigned_abs z ≤ 2 ^ 65) (sym same) c.share-gain.ensures.narrow) c.loop-q.invariant)

pub returns-clause-is : goal.returns-clause-is
returns-clause-is c =
    action_made c.args.kept.now c.args.inners c.args.multipliers.now c.args.shift c.args.factor c.args.j c.loop-q.q c.loop-q.gains.items
    c.new-2.result c.new.result (search rules) c.new-2.ensures
    c.loop-q-test.false c.loop-q.invariant

pub returns-clause-narrow : goal.returns-clause-narrow
returns-clause-narrow c = subst (λ (es : List GainEntry). All (λ e. unsigned_abs e.gain ≤ 2 ^ 65) es) (sym c.new-2.ensures) c.loop-q.invariant.narrow
