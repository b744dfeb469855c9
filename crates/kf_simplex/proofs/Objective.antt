-- The objective as a sum of rows, and by its own entries: the two forms are one.
use Rattle.std.proofs.Common.{◌≡◌, ℕ, zero, suc, ◌+◌, ◌<◌, ◌≤◌, sym, ap, ◌∙◌, arith, ⊎_elim, ◌⊎◌, inl, inr}
use Rattle.std.proofs.Math.IntN.{ℤ, pos, ◌*ℤ◌}
use Rattle.std.proofs.lemmas.Int.{ints}
use Rattle.std.proofs.lemmas.Bool.{cases_lt}
use Rattle.kf_frac.proofs.Ring.{mul_assoc}
use Rattle.kf_simplex.specs.Systems.{LinearSystem, right_column}
use Rattle.kf_simplex.specs.Base.{total}
use Rattle.kf_simplex.specs.Tableaus.{Row, Tableau, IsInRowSpace, IsRowOf, IsSumOfRows, IsTableau}
use Rattle.kf_simplex.proofs.Forms.{IsObjective, IsWorking, IsBasic, Spans}
use Rattle.kf_simplex.proofs.Signs.{cancel, factor_zero, factor_positive}
use Rattle.kf_simplex.proofs.Sums.{total-ext, total-scale, total-scale_right, total-swap}
use Rattle.kf_simplex.proofs.Choices.{sum_of_objective, objective_of_sum}
use Rattle.kf_simplex.specs.Turns.{combined}

-- a sum of rows is a combination of the equations
sum_in_space : (s : LinearSystem) (basis : ℕ → ℕ) (rows : ℕ → Row) (w : Row) → IsBasic s basis rows → IsSumOfRows s basis rows w → IsInRowSpace s w
sum_in_space s basis rows w b h c l =
    let v = s.unknowns in let n = s.equations in
    cancel (w c) (combined s w c) h.times h.times_positive
    (h.sum c l
    ∙ total-ext n (λ i. h.part i *ℤ rows i c) (λ i. total n (λ k. h.part i *ℤ (rows i (v + k) *ℤ s.number k c)))
    (λ (i : ℕ) (m : i < n). ap (λ (z : ℤ). h.part i *ℤ z) (b.in_space i m c l) ∙ sym (total-scale n (h.part i) (λ k. rows i (v + k) *ℤ s.number k c)))
    ∙ total-swap n n (λ i k. h.part i *ℤ (rows i (v + k) *ℤ s.number k c))
    ∙ total-ext n (λ k. total n (λ i. h.part i *ℤ (rows i (v + k) *ℤ s.number k c))) (λ k. h.times *ℤ (w (v + k) *ℤ s.number k c))
    (λ (k : ℕ) (m : k < n).
    total-ext n (λ i. h.part i *ℤ (rows i (v + k) *ℤ s.number k c)) (λ i. h.part i *ℤ rows i (v + k) *ℤ s.number k c)
    (λ (i : ℕ) (u : i < n). sym (mul_assoc (h.part i) (rows i (v + k)) (s.number k c)))
    ∙ total-scale_right n (s.number k c) (λ i. h.part i *ℤ rows i (v + k))
    ∙ ap (λ (z : ℤ). z *ℤ s.number k c) (sym (h.sum (v + k) (omega arith)))
    ∙ mul_assoc h.times (w (v + k)) (s.number k c))
    ∙ total-scale n h.times (λ k. w (v + k) *ℤ s.number k c))

-- some of the first n columns is artificial, or none is
pub find_artificial : (v n : ℕ) (f : ℕ → ℕ) → ((k : ℕ) × (k < n) × (v ≤ f k)) ⊎ ((k : ℕ) → k < n → f k < v)
find_artificial v zero f = inr (λ k l. absurd (omega arith))
find_artificial v (suc n) f =
    ⊎_elim (λ (h : f n < v). ⊎_elim (λ (w : (k : ℕ) × (k < n) × (v ≤ f k)). inl (w.0, omega arith, w.2))
    (λ (no : (k : ℕ) → k < n → f k < v). inr (λ (k : ℕ) (l : k < suc n). ⊎_elim (λ (m : k < n). no k m) (λ (m : n ≤ k). let q : k ≡ n = omega arith in rw q h) (cases_lt k n)))
    (find_artificial v n f))
    (λ (h : v ≤ f n). inl (n, omega arith, h))
    (cases_lt (f n) v)

-- the sum has one positive number at each basic artificial, and 0 at the other basic columns
pub objective_of : (s : LinearSystem) (basis : ℕ → ℕ) (rows : ℕ → Row) (w : Row) → IsBasic s basis rows → IsSumOfRows s basis rows w → IsObjective s basis w
objective_of s basis rows w b h =
    let iw = sum_in_space s basis rows w b h in
    let there : (i : ℕ) → i < s.equations → s.unknowns ≤ basis i → h.times *ℤ w (basis i) ≡ h.common =
    λ i l a. objective_of_sum s basis rows b w iw h i l ∙ h.artificial i l a in
    let unknown_zero : (k : ℕ) → k < s.equations → basis k < s.unknowns → w (basis k) ≡ pos 0 = λ k l u.
    factor_zero h.times (w (basis k)) h.times_positive (objective_of_sum s basis rows b w iw h k l ∙ (let z = h.unknown k l u in rw z (omega (arith, ints)))) in
    ⊎_elim
    (λ (k : (k : ℕ) × (k < s.equations) × (s.unknowns ≤ basis k)). record {
      in_space = iw;
      scale = w (basis k.0);
      scale_positive = factor_positive h.times (w (basis k.0)) h.times_positive (rw (there k.0 k.1 k.2) h.common_positive);
      unknown_zero = unknown_zero;
      artificial = λ j l a. cancel (w (basis j)) (w (basis k.0)) h.times h.times_positive (there j l a ∙ sym (there k.0 k.1 k.2));
    })
    (λ (no : (k : ℕ) → k < s.equations → basis k < s.unknowns). record {
      in_space = iw;
      scale = pos 1;
      scale_positive = omega (arith, ints);
      unknown_zero = unknown_zero;
      artificial = λ j l a. absurd (let z = no j l in omega arith);
    })
    (find_artificial s.unknowns s.equations basis)

pub basic_of_rows : (s : LinearSystem) (t : Tableau) → ((i : ℕ) → i < s.equations → t.basis i < right_column s)
    → ((i : ℕ) → i < s.equations → IsRowOf s t.basis i (t.rows i)) → IsBasic s t.basis t.rows
basic_of_rows s t column rows = record {
  column = column;
  in_space = λ i l. (rows i l).in_space;
  positive = λ i l. (rows i l).positive;
  zero_elsewhere = λ i k l m n. (rows i l).zero_elsewhere k m n;
}

-- from the definition to the working form, and back
pub working_of : (s : LinearSystem) (t : Tableau) → ((i : ℕ) → i < s.equations → t.basis i < right_column s) → IsTableau s t → IsWorking s t
working_of s t column h = record {
  rows = h.rows;
  objective = objective_of s t.basis t.rows t.objective (basic_of_rows s t column h.rows) h.objective;
  objective_primitive = h.objective_primitive;
}

pub tableau_of_working : (s : LinearSystem) (t : Tableau) → ((i : ℕ) → i < s.equations → t.basis i < right_column s) → Spans s t.rows → IsWorking s t → IsTableau s t
tableau_of_working s t column p h = record {
  rows = h.rows;
  objective = sum_of_objective s t.basis t.rows (basic_of_rows s t column h.rows) p t.objective h.objective;
  objective_primitive = h.objective_primitive;
}
