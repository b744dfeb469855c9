-- What the next turn of a run does can be decided.
use Rattle.std.proofs.Common.{◌≡◌, ◌≢◌, ℕ, zero, suc, ◌+◌, ◌-◌, ◌^◌, ◌<◌, ◌≤◌, subst, arith, ◌⊎◌, ⊎_elim, inl, inr, Option, None, Some, unsigned_abs}
use Rattle.std.proofs.Math.IntN.{ℤ, pos}
use Rattle.std.proofs.lemmas.Int.{ints, by_lt_z}
use Rattle.std.proofs.lemmas.Bool.{cases_eq, cases_lt}
use Rattle.std.specs.declared.cmp.Ordering.{Ordering}
use Rattle.std.specs.declared.cmp.Ordering.TheVariants.{Less, Equal, Greater}
use lib.Signed.{◌<ℤ◌, ◌≤ℤ◌}
use Rattle.kf_simplex.specs.Systems.{LinearSystem, right_column}
use Rattle.kf_simplex.specs.Tableaus.{Tableau}
use Rattle.kf_simplex.specs.Runs.{IsNarrow, NoneEnters, Cause, wide, solution, multipliers, budget, Ends, GoesOn}
use Rattle.kf_simplex.specs.Cells.{IsFirstDifference, key_at, IsLeaving, IsEntering}
use Rattle.kf_simplex.proofs.RowOrder.{leaving_skip, leaving_first, leaving_less, leaving_not_less}

-- ---- narrow tableaus

-- what can be decided of each number can be decided of all below n
all_below : (P : ℕ → Type 0) → ((k : ℕ) → P k ⊎ (P k → ⊥)) → (n : ℕ) → ((k : ℕ) → k < n → P k) ⊎ (((k : ℕ) → k < n → P k) → ⊥)
all_below P decide zero = inl (λ k l. absurd (omega arith))
all_below P decide (suc n) =
    ⊎_elim
    (λ (yes : (k : ℕ) → k < n → P k).
    ⊎_elim
    (λ (here : P n). inl (λ (k : ℕ) (l : k < suc n). ⊎_elim (λ (m : k < n). yes k m) (λ (m : n ≤ k). let e : n ≡ k = omega arith in subst P e here) (cases_lt k n)))
    (λ (none : P n → ⊥). inr (λ (all : (k : ℕ) → k < suc n → P k). none (all n (omega arith))))
    (decide n))
    (λ (none : ((k : ℕ) → k < n → P k) → ⊥). inr (λ (all : (k : ℕ) → k < suc n → P k). none (λ k l. all k (omega arith))))
    (all_below P decide n)

abbrev Fits : ℤ → Type 0
Fits z = unsigned_abs z ≤ 2 ^ 62

fits : (z : ℤ) → Fits z ⊎ (Fits z → ⊥)
fits z = ⊎_elim (λ (l : 2 ^ 62 < unsigned_abs z). inr (λ (h : Fits z). omega arith)) (λ (l : unsigned_abs z ≤ 2 ^ 62). inl l) (cases_lt (2 ^ 62) (unsigned_abs z))

narrow : (s : LinearSystem) (t : Tableau) → IsNarrow s t ⊎ (IsNarrow s t → ⊥)
narrow s t =
    let w : ℕ = right_column s + 1 in
    let Rows : Type 0 = (i : ℕ) → i < s.equations → (c : ℕ) → c < right_column s + 1 → Fits (t.rows i c) in
    let Objective : Type 0 = (c : ℕ) → c < right_column s + 1 → Fits (t.objective c) in
    ⊎_elim
    (λ (rows : Rows).
    ⊎_elim
    (λ (objective : Objective). inl (record { rows = λ i c l m. rows i l c (omega arith); objective = λ c m. objective c (omega arith) }))
    (λ (none : Objective → ⊥). inr (λ (h : IsNarrow s t). none (λ c m. h.objective c (omega arith))))
    (all_below (λ c. Fits (t.objective c)) (λ c. fits (t.objective c)) (right_column s + 1)))
    (λ (none : Rows → ⊥). inr (λ (h : IsNarrow s t). none (λ i l c m. h.rows i c l (omega arith))))
    (all_below (λ i. (c : ℕ) → c < right_column s + 1 → Fits (t.rows i c)) (λ i. all_below (λ c. Fits (t.rows i c)) (λ c. fits (t.rows i c)) (right_column s + 1)) s.equations)

-- ---- the column that enters

entering_more : (row : ℕ → ℤ) (n : ℕ) (found : Option ℕ) → IsEntering row n found → (next : Option ℕ) × IsEntering row (suc n) next
entering_more row n (Some c) h = (Some c, ((let l = h.0 in omega arith), h.1, h.2))
entering_more row n None h =
    by_lt_z (pos 0) (row n)
    (λ (p : pos 0 <ℤ row n). (Some n, (omega arith, p, h)))
    (λ (p : row n ≤ℤ pos 0). (None, λ j l. ⊎_elim (λ (m : j < n). h j m) (λ (m : n ≤ j). let e : n ≡ j = omega arith in subst (λ (k : ℕ). row k ≤ℤ pos 0) e p) (cases_lt j n)))

pub entering_found : (row : ℕ → ℤ) (n : ℕ) → (found : Option ℕ) × IsEntering row n found
entering_found row zero = (None, λ j l. absurd (omega arith))
entering_found row (suc n) = let before = entering_found row n in entering_more row n before.0 before.1

-- ---- the row that leaves

difference_more : (f g : ℕ → ℤ) (n : ℕ) (o : Ordering) → IsFirstDifference f g n o → (p : Ordering) × IsFirstDifference f g (suc n) p
difference_more f g n Less h = (Less, (h.0, (let l = h.1 in omega arith), h.2, h.3))
difference_more f g n Greater h = (Greater, (h.0, (let l = h.1 in omega arith), h.2, h.3))
difference_more f g n Equal h =
    by_lt_z (f n) (g n)
    (λ (p : f n <ℤ g n). (Less, (n, omega arith, h, p)))
    (λ (p : g n ≤ℤ f n).
    by_lt_z (g n) (f n)
    (λ (q : g n <ℤ f n). (Greater, (n, omega arith, h, q)))
    (λ (q : f n ≤ℤ g n).
    let same : f n ≡ g n = omega (arith, ints) in
    (Equal, λ k l. ⊎_elim (λ (m : k < n). h k m) (λ (m : n ≤ k). let e : n ≡ k = omega arith in subst (λ (j : ℕ). f j ≡ g j) e same) (cases_lt k n))))

first_difference : (f g : ℕ → ℤ) (n : ℕ) → (o : Ordering) × IsFirstDifference f g n o
first_difference f g zero = (Equal, λ k l. absurd (omega arith))
first_difference f g (suc n) = let before = first_difference f g n in difference_more f g n before.0 before.1

leaving_better : (cells : ℕ → ℕ → ℤ) (w unknowns c i r : ℕ) (o : Ordering) → pos 0 <ℤ cells i c
    → IsFirstDifference (key_at cells w unknowns c i r) (key_at cells w unknowns c r i) (w - unknowns) o
    → IsLeaving cells w unknowns c i (Some r) → (next : Option ℕ) × IsLeaving cells w unknowns c (i + 1) next
leaving_better cells w unknowns c i r Less p d h = (Some i, leaving_less cells w unknowns c i r p d h)
leaving_better cells w unknowns c i r Equal p d h = (Some r, leaving_not_less cells w unknowns c i r Equal p d (λ e. absurd (cc)) h)
leaving_better cells w unknowns c i r Greater p d h = (Some r, leaving_not_less cells w unknowns c i r Greater p d (λ e. absurd (cc)) h)

leaving_more : (cells : ℕ → ℕ → ℤ) (w unknowns c i : ℕ) (best : Option ℕ) → pos 0 <ℤ cells i c → IsLeaving cells w unknowns c i best
    → (next : Option ℕ) × IsLeaving cells w unknowns c (i + 1) next
leaving_more cells w unknowns c i None p h = (Some i, leaving_first cells w unknowns c i p h)
leaving_more cells w unknowns c i (Some r) p h =
    let d = first_difference (key_at cells w unknowns c i r) (key_at cells w unknowns c r i) (w - unknowns) in
    leaving_better cells w unknowns c i r d.0 p d.1 h

pub leaving_found : (cells : ℕ → ℕ → ℤ) (w unknowns c i : ℕ) → (best : Option ℕ) × IsLeaving cells w unknowns c i best
leaving_found cells w unknowns c zero = (None, λ k l. absurd (omega arith))
leaving_found cells w unknowns c (suc i) =
    let before : (best : Option ℕ) × IsLeaving cells w unknowns c i best = leaving_found cells w unknowns c i in
    let more : (best : Option ℕ) × IsLeaving cells w unknowns c (i + 1) best =
    by_lt_z (pos 0) (cells i c)
    (λ (p : pos 0 <ℤ cells i c). leaving_more cells w unknowns c i before.0 p before.1)
    (λ (p : cells i c ≤ℤ pos 0). (before.0, leaving_skip cells w unknowns c i before.0 p before.1)) in
    let same : i + 1 ≡ suc i = omega arith in
    (more.0, subst (λ (k : ℕ). IsLeaving cells w unknowns c k more.0) same more.1)

-- ---- the first cause that applies, or none

pub first_cause : (s : LinearSystem) (limit p : ℕ) (t : Tableau) → ((c : Cause) × Ends s limit p t c) ⊎ GoesOn s limit p t
first_cause s limit p t =
    ⊎_elim
    (λ (fits : IsNarrow s t).
    by_zero (t.objective (right_column s))
    (λ (z : t.objective (right_column s) ≡ pos 0). inl (solution, (fits, z)))
    (λ (nz : t.objective (right_column s) ≢ pos 0).
    ⊎_elim
    (λ (none : NoneEnters s t). inl (multipliers, (fits, nz, none)))
    (λ (some : NoneEnters s t → ⊥).
    ⊎_elim
    (λ (e : p ≡ limit). inl (budget, (fits, nz, some, e)))
    (λ (d : p ≡ limit → ⊥). inr (fits, nz, some, d))
    (cases_eq p limit))
    (all_below (λ j. t.objective j ≤ℤ pos 0) (λ j. not_positive (t.objective j)) s.unknowns)))
    (λ (no_fit : IsNarrow s t → ⊥). inl (wide, no_fit))
    (narrow s t)
  where
    not_positive : (z : ℤ) → (z ≤ℤ pos 0) ⊎ (z ≤ℤ pos 0 → ⊥)
    not_positive z = by_lt_z (pos 0) z (λ (p : pos 0 <ℤ z). inr (λ (h : z ≤ℤ pos 0). omega (arith, ints))) (λ (p : z ≤ℤ pos 0). inl p)

    by_zero : {G : Type 0} (z : ℤ) → (z ≡ pos 0 → G) → (z ≢ pos 0 → G) → G
    by_zero z f g =
        by_lt_z (pos 0) z (λ (p : pos 0 <ℤ z). g (λ e. omega (arith, ints)))
        (λ (p : z ≤ℤ pos 0). by_lt_z z (pos 0) (λ (q : z <ℤ pos 0). g (λ e. omega (arith, ints))) (λ (q : pos 0 ≤ℤ z). f (omega (arith, ints))))
