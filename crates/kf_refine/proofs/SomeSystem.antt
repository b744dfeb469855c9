-- Two hypers have a system of equations.
use Rattle.std.proofs.Common.{◌≡◌, ℕ, ◌+◌, ◌-◌, ◌*◌, ◌/◌, ◌%◌, ◌<◌, ◌≤◌, ◌==◌, refl, sym, ◌∙◌, subst, arith, List, length, if◌then◌else◌, slice_index, Bool, true, false}
use Rattle.std.specs.Prelude.{nat_lt}
use Rattle.std.proofs.Math.IntN.{ℤ, pos}
use Rattle.std.proofs.Math.Nat.{mul-le-mul_right}
use Rattle.std.proofs.lemmas.Int.{ints}
use Rattle.std.proofs.lemmas.Bool.{lt-ltb, le-ltb, eq-eqb, ne_eqb}
use Rattle.std.proofs.lemmas.Nat.{div-mul-add, mod-mul-add}
use lib.Signed.{◌≤ℤ◌}
use Rattle.kf_simplex.specs.Systems.{LinearSystem, IsSystem}
use Rattle.kf_refine.specs.Refinements.{HyperTree, count}
use Rattle.kf_refine.specs.Equations.{AreKept, AreEquations}
use Rattle.kf_refine.specs.Views.{IsProper}
use Rattle.kf_refine.proofs.SomeKept.{some_kept}
use Rattle.kf_refine.proofs.SomeWhole.{some_whole, whole_a, whole_b}

-- a choice, once its test is known
pub chosen : {X : Type 0} (t : Bool) (x y : X) → t ≡ true → (if t then x else y) ≡ x
chosen true x y e = refl
chosen false x y e = absurd (cc)

pub refused : {X : Type 0} (t : Bool) (x y : X) → t ≡ false → (if t then x else y) ≡ y
refused true x y e = absurd (cc)
refused false x y e = refl

-- the equations by a function: for m and n inners, and the whole weights of the values
module _ (m n : ℕ) (values : List ℕ) (u v : ℕ → ℕ → ℕ) where
  abbrev weighed : ℕ
  weighed = length values * n

  abbrev unknowns : ℕ
  unknowns = m * n

  abbrev equations : ℕ
  equations = weighed + m

  -- at an unknown
  abbrev coefficient : ℕ → ℕ → ℤ
  coefficient k c =
      if nat_lt k weighed
      then (if (k % n) == (c % n) then pos (u (slice_index values (k / n)) (c / n)) else pos 0)
      else (if (k - weighed) == (c / n) then pos 1 else pos 0)

  abbrev right_side : ℕ → ℤ
  right_side k = if nat_lt k weighed then pos (v (slice_index values (k / n)) (k % n)) else pos 1

  abbrev number : ℕ → ℕ → ℤ
  number k c =
      if nat_lt c unknowns then coefficient k c
      else (if c == (unknowns + equations) then right_side k else (if c == (unknowns + k) then pos 1 else pos 0))

  abbrev pub built : LinearSystem
  built = record { unknowns = unknowns; equations = equations; number = number }

  -- ---- at each kind of column

  at_unknown : (k c : ℕ) → c < unknowns → number k c ≡ coefficient k c
  at_unknown k c l = chosen (nat_lt c unknowns) (coefficient k c) (if c == (unknowns + equations) then right_side k else (if c == (unknowns + k) then pos 1 else pos 0)) (lt-ltb c unknowns l)

  at_right : (k : ℕ) → number k (unknowns + equations) ≡ right_side k
  at_right k =
      let c : ℕ = unknowns + equations in
      refused (nat_lt c unknowns) (coefficient k c) (if c == (unknowns + equations) then right_side k else (if c == (unknowns + k) then pos 1 else pos 0)) (le-ltb c unknowns (omega arith))
      ∙ chosen (c == (unknowns + equations)) (right_side k) (if c == (unknowns + k) then pos 1 else pos 0) (eq-eqb c (unknowns + equations) refl)

  at_artificial : (k x : ℕ) → x < equations → number k (unknowns + x) ≡ (if (unknowns + x) == (unknowns + k) then pos 1 else pos 0)
  at_artificial k x l =
      let c : ℕ = unknowns + x in
      refused (nat_lt c unknowns) (coefficient k c) (if c == (unknowns + equations) then right_side k else (if c == (unknowns + k) then pos 1 else pos 0)) (le-ltb c unknowns (omega arith))
      ∙ refused (c == (unknowns + equations)) (right_side k) (if c == (unknowns + k) then pos 1 else pos 0) (ne_eqb c (unknowns + equations) (λ e. omega arith))

  -- ---- at each kind of equation

  before : (q j : ℕ) → q < length values → j < n → q * n + j < weighed
  before q j l k = let room : (q + 1) * n ≤ length values * n = mul-le-mul_right n (omega arith) in omega arith

  inside : (i l : ℕ) → i < m → l < n → i * n + l < unknowns
  inside i l k o = let room : (i + 1) * n ≤ m * n = mul-le-mul_right n (omega arith) in omega arith

  weight : (q j i l : ℕ) → q < length values → j < n → i < m → l < n
      → number (q * n + j) (i * n + l) ≡ (if j == l then pos (u (slice_index values q) i) else pos 0)
  weight q j i l ql jl il ll =
      let k : ℕ = q * n + j in
      let c : ℕ = i * n + l in
      at_unknown k c (inside i l il ll)
      ∙ chosen (nat_lt k weighed) (if (k % n) == (c % n) then pos (u (slice_index values (k / n)) (c / n)) else pos 0)
      (if (k - weighed) == (c / n) then pos 1 else pos 0) (lt-ltb k weighed (before q j ql jl))
      ∙ (λ t. if (mod-mul-add q n j jl t) == (mod-mul-add i n l ll t) then pos (u (slice_index values (div-mul-add q n j jl t)) (div-mul-add i n l ll t)) else pos 0)

  entry : (p i l : ℕ) → p < m → i < m → l < n → number (weighed + p) (i * n + l) ≡ (if p == i then pos 1 else pos 0)
  entry p i l pl il ll =
      let k : ℕ = weighed + p in
      let c : ℕ = i * n + l in
      let past : (weighed + p) - weighed ≡ p = omega arith in
      at_unknown k c (inside i l il ll)
      ∙ refused (nat_lt k weighed) (if (k % n) == (c % n) then pos (u (slice_index values (k / n)) (c / n)) else pos 0)
      (if (k - weighed) == (c / n) then pos 1 else pos 0) (le-ltb k weighed (omega arith))
      ∙ (λ t. if (past t) == (div-mul-add i n l ll t) then pos 1 else pos 0)

  sum : (q j : ℕ) → q < length values → j < n → number (q * n + j) (unknowns + equations) ≡ pos (v (slice_index values q) j)
  sum q j ql jl =
      let k : ℕ = q * n + j in
      at_right k
      ∙ chosen (nat_lt k weighed) (pos (v (slice_index values (k / n)) (k % n))) (pos 1) (lt-ltb k weighed (before q j ql jl))
      ∙ (λ t. pos (v (slice_index values (div-mul-add q n j jl t)) (mod-mul-add q n j jl t)))

  one : (p : ℕ) → p < m → number (weighed + p) (unknowns + equations) ≡ pos 1
  one p pl =
      let k : ℕ = weighed + p in
      at_right k ∙ refused (nat_lt k weighed) (pos (v (slice_index values (k / n)) (k % n))) (pos 1) (le-ltb k weighed (omega arith))

  -- no right side is negative
  some_side : (t : Bool) (x y : ℕ) → pos 0 ≤ℤ (if t then pos x else pos y)
  some_side true x y = omega (arith, ints)
  some_side false x y = omega (arith, ints)

  is_system : IsSystem built
  is_system = record {
    same = λ k l. at_artificial k k l ∙ chosen ((unknowns + k) == (unknowns + k)) (pos 1) (pos 0) (eq-eqb (unknowns + k) (unknowns + k) refl);
    other = λ k x kl xl apart.
        at_artificial k x xl
        ∙ refused ((unknowns + x) == (unknowns + k)) (pos 1) (pos 0) (ne_eqb (unknowns + x) (unknowns + k) (λ (e : unknowns + x ≡ unknowns + k). apart (omega (arith, e))));
    right = λ k l. subst (λ (z : ℤ). pos 0 ≤ℤ z) (sym (at_right k)) (some_side (nat_lt k weighed) (v (slice_index values (k / n)) (k % n)) 1);
  }

module _ (a b : HyperTree) (p : IsProper a) (q : IsProper b) where
  abbrev kept_values : List ℕ
  kept_values = (some_kept a b p q).0

  are_kept : AreKept a b kept_values
  are_kept = (some_kept a b p q).1

  abbrev u : ℕ → ℕ → ℕ
  u = whole_a a b kept_values p q are_kept

  abbrev v : ℕ → ℕ → ℕ
  v = whole_b a b kept_values p q are_kept

  pub some_system : (s : LinearSystem) × AreEquations a b s
  some_system = (
    built (count a) (count b) kept_values u v,
    record {
      system = is_system (count a) (count b) kept_values u v;
      values = kept_values;
      are_kept = are_kept;
      u = u;
      v = v;
      are_whole = some_whole a b kept_values p q are_kept;
      unknowns = refl;
      equations = refl;
      weight = weight (count a) (count b) kept_values u v;
      sum = sum (count a) (count b) kept_values u v;
      entry = entry (count a) (count b) kept_values u v;
      one = one (count a) (count b) kept_values u v;
    },
  )
