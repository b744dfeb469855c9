-- Multipliers that refute the equations aren't all 0 at the equations of values.
use Rattle.std.proofs.Common.{◌≡◌, ◌≢◌, ℕ, zero, suc, ◌+◌, ◌-◌, ◌*◌, ◌/◌, ◌%◌, ◌<◌, ◌≤◌, ◌⊎◌, inl, inr, sym, ap, ◌∙◌, subst, arith, ⊎_elim, unsigned_abs, List, [], ◌∷◌, length, if◌then◌else◌}
use Rattle.std.specs.Prelude.{◌==◌}
use Rattle.std.proofs.Math.IntN.{ℤ, pos, ◌*ℤ◌}
use Rattle.std.proofs.Math.Nat.{mod-lt, div-lt_iff_lt-mul}
use Rattle.std.proofs.lemmas.Nat.{div-add-mod'}
use Rattle.std.proofs.lemmas.Int.{ints}
use Rattle.std.proofs.lemmas.Bool.{cases_lt, cases_eq}
use Rattle.std.proofs.lemmas.Bool.Decides.{nat_tests}
use lib.Signed.{◌<ℤ◌, ◌≤ℤ◌}
use Rattle.kf_column.specs.Hypers.{Inner}
use Rattle.kf_column.specs.Shapes.{IsShape}
use Rattle.kf_simplex.proofs.FlatRows.{zero_from_abs}
use Rattle.kf_simplex.proofs.Sums.{total_at_most, total-single}
use Rattle.kf_simplex.specs.Base.{at, total}
use Rattle.kf_simplex.specs.Solutions.{Refutes}
use Rattle.kf_simplex.specs.Systems.{LinearSystem, right_column}
use Rattle.kf_refine.proofs.Tabling.{place_below}
use Rattle.kf_refine.specs.Equations.{AreEquations}
use Rattle.kf_refine.specs.Refinements.{HyperTree, count}
use Rattle.kf_refine.specs.Built.{multiplier}

-- either some number isn't 0, or all are
find_some : (m : ℕ) (f : ℕ → ℤ) → ((k : ℕ) × (k < m) × (f k ≢ pos 0)) ⊎ ((k : ℕ) → k < m → f k ≡ pos 0)
find_some zero f = inr (λ k l. absurd (omega arith))
find_some (suc m) f =
    ⊎_elim
    (λ (z : unsigned_abs (f m) ≡ 0). ⊎_elim
    (λ (w : (k : ℕ) × (k < m) × (f k ≢ pos 0)). inl (w.0, omega arith, w.2))
    (λ (all : (k : ℕ) → k < m → f k ≡ pos 0). inr (λ (k : ℕ) (l : k < suc m). ⊎_elim
    (λ (b : k < m). all k b)
    (λ (b : m ≤ k). let e : k ≡ m = omega arith in ap f e ∙ zero_from_abs (f m) z)
    (cases_lt k m)))
    (find_some m f))
    (λ (d : unsigned_abs (f m) ≢ 0). inl (m, omega arith, λ e. d (ap unsigned_abs e)))
    (cases_eq (unsigned_abs (f m)) 0)

nothing_times : (y z : ℤ) → y ≡ pos 0 → y *ℤ z ≡ pos 0
nothing_times y z e = rw e (omega (arith, ints))

times_nothing : (y z : ℤ) → z ≡ pos 0 → y *ℤ z ≡ pos 0
times_nothing y z e = rw e (omega (arith, ints))

times_one : (y z : ℤ) → z ≡ pos 1 → y *ℤ z ≡ y
times_one y z e = rw e (omega (arith, ints))

chosen_not : (p i : ℕ) → p ≢ i → (if p == i then pos 1 else pos 0) ≡ pos 0
chosen_not p i d = grind (arith, nat_tests)

chosen_is : (p : ℕ) → (if p == p then pos 1 else pos 0) ≡ pos 1
chosen_is p = grind (arith, nat_tests)

-- where the multipliers of the values' equations are 0, those of the last equations are at most 0
last_at_most : (a b : HyperTree) (s : LinearSystem) (e : AreEquations a b s) (ys : List ℤ) → 0 < count b → Refutes s (at ys)
    → ((k : ℕ) → k < length e.values * count b → at ys k ≡ pos 0) → (p : ℕ) → p < count a → at ys (length e.values * count b + p) ≤ℤ pos 0
last_at_most a b s e ys some r none p l =
    let c : ℕ = p * count b + 0 in
    let inside : p * count b + 0 < s.unknowns = let m = place_below (count a) (count b) p 0 l some in let u = e.unknowns in omega arith in
    let here : length e.values * count b + p < s.equations = let q = e.equations in omega arith in
    let sum = r.unknowns (p * count b + 0) inside in
    let single : total s.equations (λ k. at ys k *ℤ s.number k (p * count b + 0)) ≡ at ys (length e.values * count b + p) *ℤ s.number (length e.values * count b + p) (p * count b + 0) =
    total-single s.equations (length e.values * count b + p) (λ k. at ys k *ℤ s.number k (p * count b + 0)) here
    (λ (k : ℕ) (m : k < s.equations) (d : k ≢ length e.values * count b + p). ⊎_elim
    (λ (b' : k < length e.values * count b). nothing_times (at ys k) (s.number k (p * count b + 0)) (none k b'))
    (λ (b' : length e.values * count b ≤ k). last_zero a b s e ys some p l k m d b')
    (cases_lt k (length e.values * count b))) in
    let own : at ys (length e.values * count b + p) *ℤ s.number (length e.values * count b + p) (p * count b + 0) ≡ at ys (length e.values * count b + p) =
    times_one (at ys (length e.values * count b + p)) (s.number (length e.values * count b + p) (p * count b + 0)) (e.entry p p 0 l l some ∙ chosen_is p) in
    subst (λ (z : ℤ). z ≤ℤ pos 0) (single ∙ own) sum
  where
    last_zero : (a b : HyperTree) (s : LinearSystem) (e : AreEquations a b s) (ys : List ℤ) → 0 < count b → (p : ℕ) → p < count a
        → (k : ℕ) → k < s.equations → k ≢ length e.values * count b + p → length e.values * count b ≤ k
        → at ys k *ℤ s.number k (p * count b + 0) ≡ pos 0
    last_zero a b s e ys some p l k m d past =
        let i : ℕ = k - length e.values * count b in
        let place : length e.values * count b + (k - length e.values * count b) ≡ k = omega arith in
        let low : k - length e.values * count b < count a = let q = e.equations in omega arith in
        let other : k - length e.values * count b ≢ p = λ (z : k - length e.values * count b ≡ p). d (omega arith) in
        times_nothing (at ys k) (s.number k (p * count b + 0))
        (subst (λ (z : ℕ). s.number z (p * count b + 0) ≡ pos 0) place
        (e.entry (k - length e.values * count b) p 0 low l some ∙ chosen_not (k - length e.values * count b) p other))

-- so the right sides would come to 0 at most
right_at_most : (a b : HyperTree) (s : LinearSystem) (e : AreEquations a b s) (ys : List ℤ) → 0 < count b → Refutes s (at ys)
    → ((k : ℕ) → k < length e.values * count b → at ys k ≡ pos 0) → total s.equations (λ k. at ys k *ℤ s.number k (right_column s)) ≤ℤ pos 0
right_at_most a b s e ys some r none =
    total_at_most s.equations (λ k. at ys k *ℤ s.number k (right_column s)) (λ (k : ℕ) (m : k < s.equations). ⊎_elim
    (λ (l : k < length e.values * count b). let z = nothing_times (at ys k) (s.number k (right_column s)) (none k l) in
    subst (λ (z : ℤ). z ≤ℤ pos 0) (sym z) (omega (arith, ints)))
    (λ (l : length e.values * count b ≤ k).
    let place : length e.values * count b + (k - length e.values * count b) ≡ k = omega arith in
    let low : k - length e.values * count b < count a = let q = e.equations in omega arith in
    let one = subst (λ (z : ℕ). s.number z (right_column s) ≡ pos 1) place (e.one (k - length e.values * count b) low) in
    let most = subst (λ (z : ℕ). at ys z ≤ℤ pos 0) place (last_at_most a b s e ys some r none (k - length e.values * count b) low) in
    subst (λ (z : ℤ). z ≤ℤ pos 0) (sym (times_one (at ys k) (s.number k (right_column s)) one)) most)
    (cases_lt k (length e.values * count b)))

pub some_multiplier : (a b : HyperTree) (s : LinearSystem) (e : AreEquations a b s) (ys : List ℤ) → 0 < count b → Refutes s (at ys)
    → (q : ℕ) × (j : ℕ) × (q < length e.values) × (j < count b) × (multiplier (count b) ys q j ≢ pos 0)
some_multiplier a b s e ys some r =
    ⊎_elim
    (λ (w : (k : ℕ) × (k < length e.values * count b) × (at ys k ≢ pos 0)). (
      w.0 / count b,
      w.0 % count b,
      (div-lt_iff_lt-mul some).1 w.1,
      mod-lt w.0 some,
      λ (z : multiplier (count b) ys (w.0 / count b) (w.0 % count b) ≡ pos 0). w.2 (ap (λ (k : ℕ). at ys k) (sym (div-add-mod' w.0 (count b))) ∙ z),
    ))
    (λ (none : (k : ℕ) → k < length e.values * count b → at ys k ≡ pos 0).
    absurd (no_both (total s.equations (λ k. at ys k *ℤ s.number k (right_column s))) r.right (right_at_most a b s e ys some r none)))
    (find_some (length e.values * count b) (at ys))
  where
    no_both : (z : ℤ) → pos 0 <ℤ z → z ≤ℤ pos 0 → ⊥
    no_both z l m = omega (arith, ints)

-- the same of equal lists of values and equal numbers of inners
pub some_place : (n k : ℕ) (ys : List ℤ) (xs kept : List ℕ) → k ≡ n → xs ≡ kept
    → (q : ℕ) × (j : ℕ) × (q < length xs) × (j < n) × (multiplier n ys q j ≢ pos 0)
    → (q : ℕ) × (j : ℕ) × (q < length kept) × (j < k) × (multiplier k ys q j ≢ pos 0)
some_place n k ys xs kept same e w = (
  w.0,
  w.1,
  subst (λ (vs : List ℕ). w.0 < length vs) e w.2,
  subst (λ (m : ℕ). w.1 < m) (sym same) w.3,
  subst (λ (m : ℕ). multiplier m ys w.0 w.1 ≢ pos 0) (sym same) w.4,
)

-- a hyper has some inner
pub some_inner : (size scale : ℕ) (inners : List Inner) → IsShape size scale inners → 0 < length inners
some_inner size scale [] h = let s = h.some in let w = h.whole in absurd (omega arith)
some_inner size scale (i ∷ inners) h = omega arith
