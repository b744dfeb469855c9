-- Two lists of weighted numbers, each of which has the means of the other's: no number is then far from those that it is a mean of.
use Rattle.std.proofs.Common.{◌≡◌, ℕ, ◌<◌, refl, ap, ◌∙◌, arith}
use Rattle.std.proofs.Math.IntN.{ℤ, pos, ◌+ℤ◌, ◌-ℤ◌, ◌*ℤ◌, neg_ℤ}
use Rattle.std.proofs.lemmas.Int.{ints, by_lt_z}
use lib.Signed.{◌<ℤ◌, ◌≤ℤ◌}
use Rattle.kf_frac.proofs.Ring.{ring}
use Rattle.kf_simplex.specs.Base.{total}
use Rattle.kf_simplex.proofs.Signs.{factor_not_negative, factor_zero, product_not_negative, product_positive}
use Rattle.kf_simplex.proofs.Sums.{total-add, total-ext, total-scale, total-scale_right, total-swap, total_not_negative, total_zero_each}

-- ---- squares

square_not_negative : (z : ℤ) → pos 0 ≤ℤ (z *ℤ z)
square_not_negative z =
    by_lt_z z (pos 0) (λ (l : z <ℤ pos 0). let p = product_positive (neg_ℤ z) (neg_ℤ z) (omega (arith, ints)) (omega (arith, ints)) in let q = simp ring at p in omega (arith, ints, q))
    (λ (g : pos 0 ≤ℤ z). product_not_negative z z g g)

no_square : (z : ℤ) → z *ℤ z ≡ pos 0 → z ≡ pos 0
no_square z none =
    by_lt_z z (pos 0) (λ (l : z <ℤ pos 0). let p = product_positive (neg_ℤ z) (neg_ℤ z) (omega (arith, ints)) (omega (arith, ints)) in let q = simp ring at p in omega (arith, ints, q, none))
    (λ (g : pos 0 ≤ℤ z). by_lt_z (pos 0) z (λ (m : pos 0 <ℤ z). omega (arith, ints, none, product_positive z z m m)) (λ (h : z ≤ℤ pos 0). omega (arith, ints)))

squared : (a r p q : ℤ) → a *ℤ r *ℤ ((p -ℤ q) *ℤ (p -ℤ q)) ≡ a *ℤ (p *ℤ p) *ℤ r +ℤ (neg_ℤ (q +ℤ q) *ℤ (a *ℤ p *ℤ r) +ℤ q *ℤ q *ℤ (a *ℤ r))
squared a r p q = simp ring (omega (arith, ints))

cancelled : (q d b : ℤ) → neg_ℤ (q +ℤ q) *ℤ (d *ℤ (b *ℤ q)) +ℤ q *ℤ q *ℤ (d *ℤ b) ≡ neg_ℤ (d *ℤ (b *ℤ (q *ℤ q)))
cancelled q d b = simp ring (omega (arith, ints))

-- ---- the numbers p with weights a, and the numbers q with weights b, each of which is a mean of the former

module _ (m n : ℕ) (a b p q : ℕ → ℤ) (r : ℕ → ℕ → ℤ) (d : ℤ)
    (rows : (i : ℕ) → i < m → total n (r i) ≡ d)
    (outers : (j : ℕ) → j < n → total m (λ i. a i *ℤ r i j) ≡ d *ℤ b j)
    (means : (j : ℕ) → j < n → total m (λ i. a i *ℤ p i *ℤ r i j) ≡ d *ℤ (b j *ℤ q j)) where
  abbrev pub far : ℕ → ℕ → ℤ
  far j i = a i *ℤ r i j *ℤ ((p i -ℤ q j) *ℤ (p i -ℤ q j))

  column_far : (j : ℕ) → j < n → total m (far j) ≡ total m (λ i. a i *ℤ (p i *ℤ p i) *ℤ r i j) +ℤ neg_ℤ (d *ℤ (b j *ℤ (q j *ℤ q j)))
  column_far j l =
      total-ext m (far j) (λ i. a i *ℤ (p i *ℤ p i) *ℤ r i j +ℤ (neg_ℤ (q j +ℤ q j) *ℤ (a i *ℤ p i *ℤ r i j) +ℤ q j *ℤ q j *ℤ (a i *ℤ r i j)))
      (λ (i : ℕ) (k : i < m). squared (a i) (r i j) (p i) (q j))
      ∙ total-add m (λ i. a i *ℤ (p i *ℤ p i) *ℤ r i j) (λ i. neg_ℤ (q j +ℤ q j) *ℤ (a i *ℤ p i *ℤ r i j) +ℤ q j *ℤ q j *ℤ (a i *ℤ r i j))
      ∙ ap (λ (z : ℤ). total m (λ i. a i *ℤ (p i *ℤ p i) *ℤ r i j) +ℤ z)
      (total-add m (λ i. neg_ℤ (q j +ℤ q j) *ℤ (a i *ℤ p i *ℤ r i j)) (λ i. q j *ℤ q j *ℤ (a i *ℤ r i j))
      ∙ (λ t. total-scale m (neg_ℤ (q j +ℤ q j)) (λ i. a i *ℤ p i *ℤ r i j) t +ℤ total-scale m (q j *ℤ q j) (λ i. a i *ℤ r i j) t)
      ∙ (λ t. neg_ℤ (q j +ℤ q j) *ℤ means j l t +ℤ q j *ℤ q j *ℤ outers j l t)
      ∙ cancelled (q j) d (b j))

  -- how far the numbers are apart is how much the squares of the latter are less
  pub all_far : total n (λ j. total m (far j)) ≡ d *ℤ (total m (λ i. a i *ℤ (p i *ℤ p i)) -ℤ total n (λ j. b j *ℤ (q j *ℤ q j)))
  all_far =
      let before : total n (λ j. total m (λ i. a i *ℤ (p i *ℤ p i) *ℤ r i j)) ≡ total m (λ i. a i *ℤ (p i *ℤ p i)) *ℤ d =
      total-swap n m (λ j i. a i *ℤ (p i *ℤ p i) *ℤ r i j)
      ∙ total-ext m (λ i. total n (λ j. a i *ℤ (p i *ℤ p i) *ℤ r i j)) (λ i. a i *ℤ (p i *ℤ p i) *ℤ d)
      (λ (i : ℕ) (k : i < m). total-scale n (a i *ℤ (p i *ℤ p i)) (r i) ∙ ap (λ (z : ℤ). a i *ℤ (p i *ℤ p i) *ℤ z) (rows i k))
      ∙ total-scale_right m d (λ i. a i *ℤ (p i *ℤ p i)) in
      let after : total n (λ j. neg_ℤ (d *ℤ (b j *ℤ (q j *ℤ q j)))) ≡ neg_ℤ d *ℤ total n (λ j. b j *ℤ (q j *ℤ q j)) =
      total-ext n (λ j. neg_ℤ (d *ℤ (b j *ℤ (q j *ℤ q j)))) (λ j. neg_ℤ d *ℤ (b j *ℤ (q j *ℤ q j))) (λ (j : ℕ) (l : j < n). simp ring refl)
      ∙ total-scale n (neg_ℤ d) (λ j. b j *ℤ (q j *ℤ q j)) in
      total-ext n (λ j. total m (far j)) (λ j. total m (λ i. a i *ℤ (p i *ℤ p i) *ℤ r i j) +ℤ neg_ℤ (d *ℤ (b j *ℤ (q j *ℤ q j)))) column_far
      ∙ total-add n (λ j. total m (λ i. a i *ℤ (p i *ℤ p i) *ℤ r i j)) (λ j. neg_ℤ (d *ℤ (b j *ℤ (q j *ℤ q j))))
      ∙ (λ t. before t +ℤ after t)
      ∙ apart (total m (λ i. a i *ℤ (p i *ℤ p i))) (total n (λ j. b j *ℤ (q j *ℤ q j)))
    where
      apart : (x y : ℤ) → x *ℤ d +ℤ neg_ℤ d *ℤ y ≡ d *ℤ (x -ℤ y)
      apart x y = simp ring (omega (arith, ints))

  module _ (heavy : (i : ℕ) → i < m → pos 0 <ℤ a i) (not_negative : (i j : ℕ) → i < m → j < n → pos 0 ≤ℤ r i j) where
    far_not_negative : (j i : ℕ) → j < n → i < m → pos 0 ≤ℤ far j i
    far_not_negative j i l k =
        let h = heavy i k in
        product_not_negative (a i *ℤ r i j) ((p i -ℤ q j) *ℤ (p i -ℤ q j)) (product_not_negative (a i) (r i j) (omega (arith, ints, h)) (not_negative i j k l))
        (square_not_negative (p i -ℤ q j))

    pub squares_less : pos 0 <ℤ d → total n (λ j. b j *ℤ (q j *ℤ q j)) ≤ℤ total m (λ i. a i *ℤ (p i *ℤ p i))
    squares_less some =
        let all : pos 0 ≤ℤ total n (λ j. total m (far j)) =
        total_not_negative n (λ j. total m (far j)) (λ (j : ℕ) (l : j < n). total_not_negative m (far j) (λ (i : ℕ) (k : i < m). far_not_negative j i l k)) in
        let same = all_far in
        let less = factor_not_negative d (total m (λ i. a i *ℤ (p i *ℤ p i)) -ℤ total n (λ j. b j *ℤ (q j *ℤ q j))) some (omega (arith, ints, all, same)) in
        omega (arith, ints, less)

    -- where the squares aren't less, each number of the latter is that of the former that it has a part of
    pub equal_parts : total m (λ i. a i *ℤ (p i *ℤ p i)) ≤ℤ total n (λ j. b j *ℤ (q j *ℤ q j)) → pos 0 <ℤ d
        → (i j : ℕ) → i < m → j < n → pos 0 <ℤ r i j → p i ≡ q j
    equal_parts more some i j k l part =
        let none_less : total m (λ i. a i *ℤ (p i *ℤ p i)) -ℤ total n (λ j. b j *ℤ (q j *ℤ q j)) ≡ pos 0 = omega (arith, ints, more, squares_less some) in
        let same : total n (λ j. total m (far j)) ≡ pos 0 = all_far ∙ ap (λ (z : ℤ). d *ℤ z) none_less ∙ omega (arith, ints) in
        let column : total m (far j) ≡ pos 0 =
        total_zero_each n (λ j. total m (far j)) (λ (j : ℕ) (l : j < n). total_not_negative m (far j) (λ (i : ℕ) (k : i < m). far_not_negative j i l k)) same j l in
        let one : far j i ≡ pos 0 = total_zero_each m (far j) (λ (i : ℕ) (k : i < m). far_not_negative j i l k) column i k in
        let none : (p i -ℤ q j) *ℤ (p i -ℤ q j) ≡ pos 0 =
        factor_zero (a i *ℤ r i j) ((p i -ℤ q j) *ℤ (p i -ℤ q j)) (product_positive (a i) (r i j) (heavy i k) part) one in
        omega (arith, ints, no_square (p i -ℤ q j) none)
