-- The choice of the leaving row, and the objective as a sum of rows.
use Rattle.std.proofs.Common.{◌≡◌, ◌≢◌, ℕ, suc, ◌+◌, ◌<◌, ◌≤◌, sym, ap, ◌∙◌, arith}
use Rattle.std.proofs.Math.IntN.{ℤ, pos, ◌-ℤ◌, ◌*ℤ◌, *ℤ_comm}
use Rattle.std.proofs.lemmas.Int.{ints}
use lib.Signed.{◌<ℤ◌, ◌≤ℤ◌}
use Rattle.kf_simplex.proofs.Sums.{total_all_zero, total_at_most, total-single}
use Rattle.kf_simplex.proofs.Pivots.{crossed_in_space, spanned}
use Rattle.kf_simplex.proofs.Forms.{IsObjective, Spans, IsBasic}
use Rattle.kf_simplex.specs.Tableaus.{IsSumOfRows, Row, IsInRowSpace}
use Rattle.kf_simplex.specs.Systems.{LinearSystem, right_column}
use Rattle.kf_simplex.specs.Runs.{key}
use Rattle.kf_simplex.proofs.Signs.{product_at_most_zero, product_positive, product_not_negative, factor_not_negative, factor_zero}

-- a combination of no equation is 0
no_artificial : (s : LinearSystem) (a : Row) → IsInRowSpace s a → ((k : ℕ) → k < s.equations → a (s.unknowns + k) ≡ pos 0) → (c : ℕ) → c ≤ right_column s → a c ≡ pos 0
no_artificial s a i z c l = i c l ∙ total_all_zero s.equations (λ k. a (s.unknowns + k) *ℤ s.number k c) (λ (k : ℕ) (m : k < s.equations). rw (z k m) (omega (arith, ints)))

-- two rows never tie
pub no_tie : (s : LinearSystem) (basis : ℕ → ℕ) (rows : ℕ → Row) (b : IsBasic s basis rows) (r i c : ℕ) → r < s.equations → i < s.equations → i ≢ r → pos 0 <ℤ rows i c
    → ((m : ℕ) → m ≤ s.equations → key s (rows r) m *ℤ rows i c ≡ key s (rows i) m *ℤ rows r c) → ⊥
no_tie s basis rows b r i c lr li d p same =
    let a : Row = λ x. rows i c *ℤ rows r x -ℤ rows r c *ℤ rows i x in
    let in_space : IsInRowSpace s a = crossed_in_space s (rows r) (rows i) a (rows i c) (rows r c) (pos 1) (omega (arith, ints)) (b.in_space r lr) (b.in_space i li) (λ (x : ℕ) (m : x ≤ right_column s). omega (arith, ints)) in
    let none = no_artificial s a in_space (λ (k : ℕ) (m : k < s.equations). let e = same (suc k) (omega arith) in omega (arith, ints)) (basis r) (let q = b.column r lr in omega arith) in
    let z = b.zero_elsewhere i r li lr (λ e. d (sym e)) in
    let q = product_positive (rows i c) (rows r (basis r)) p (b.positive r lr) in
    let none' = rw z at none in omega (arith, ints)

-- a column that raises the objective has a row to leave
pub some_row : (s : LinearSystem) (basis : ℕ → ℕ) (rows : ℕ → Row) (b : IsBasic s basis rows) (p : Spans s rows) (w : Row) → IsInRowSpace s w
    → ((i : ℕ) → i < s.equations → pos 0 ≤ℤ w (basis i)) → (c : ℕ) → c ≤ right_column s → pos 0 <ℤ w c
    → ((i : ℕ) → i < s.equations → rows i c ≤ℤ pos 0) → ⊥
some_row s basis rows b p w iw wn c l wc below =
    let n = s.equations in
    let q = spanned s basis rows b p w iw in
    let wide : pos 0 ≤ℤ p.scale = let t = p.positive in omega (arith, ints) in
    let share_sign : (k : ℕ) → k < n → pos 0 ≤ℤ q.share k = λ k m.
    factor_not_negative (rows k (basis k)) (q.share k) (b.positive k m) (rw (sym (q.at_basic k m ∙ *ℤ_comm (q.share k) (rows k (basis k)))) (product_not_negative p.scale (w (basis k)) wide (wn k m))) in
    let high = product_positive p.scale (w c) p.positive wc in
    let low = total_at_most n (λ k. q.share k *ℤ rows k c) (λ (k : ℕ) (m : k < n). product_at_most_zero (q.share k) (rows k c) (share_sign k m) (below k m)) in
    let e = q.whole c l in omega (arith, ints)

-- from an objective to the sum of rows, and its entries at the basic columns
pub sum_of_objective : (s : LinearSystem) (basis : ℕ → ℕ) (rows : ℕ → Row) (b : IsBasic s basis rows) (p : Spans s rows) (w : Row) → IsObjective s basis w → IsSumOfRows s basis rows w
sum_of_objective s basis rows b p w o =
    let q = spanned s basis rows b p w o.in_space in
    record {
      times = p.scale;
      times_positive = p.positive;
      common = p.scale *ℤ o.scale;
      common_positive = product_positive p.scale o.scale p.positive o.scale_positive;
      part = q.share;
      artificial = λ i l a. sym (q.at_basic i l) ∙ ap (λ (z : ℤ). p.scale *ℤ z) (o.artificial i l a);
      unknown = λ i l u. factor_zero (rows i (basis i)) (q.share i) (b.positive i l)
          (*ℤ_comm (rows i (basis i)) (q.share i) ∙ sym (q.at_basic i l) ∙ (let z = o.unknown_zero i l u in rw z (omega (arith, ints))));
      sum = q.whole;
    }

pub objective_of_sum : (s : LinearSystem) (basis : ℕ → ℕ) (rows : ℕ → Row) (b : IsBasic s basis rows) (w : Row) → IsInRowSpace s w → (h : IsSumOfRows s basis rows w)
    → (i : ℕ) → i < s.equations → (h.times *ℤ w (basis i) ≡ h.part i *ℤ rows i (basis i))
objective_of_sum s basis rows b w iw h i l = h.sum (basis i) (let q = b.column i l in omega arith)
    ∙ total-single s.equations i (λ k. h.part k *ℤ rows k (basis i)) l (λ (k : ℕ) (m : k < s.equations) (d : k ≢ i). rw (b.zero_elsewhere k i m l (λ e. d (sym e))) (omega (arith, ints)))
