-- Sums over the numbers below a bound: in order, from the front, and of products of a matrix.
use Rattle.std.proofs.Common.{◌≡◌, ℕ, zero, suc, ◌<◌, sym, ◌∙◌, arith}
use Rattle.std.proofs.Math.IntN.{ℤ, ◌+ℤ◌, ◌*ℤ◌}
use Rattle.std.proofs.lemmas.Int.{ints}
use lib.Signed.{◌≤ℤ◌}
use Rattle.kf_frac.proofs.Ring.{ring}
use Rattle.kf_simplex.specs.Base.{total}
use Rattle.kf_simplex.proofs.Sums.{total-ext, total-scale, total-scale_right, total-swap}

pub total_monotone : (n : ℕ) (f g : ℕ → ℤ) → ((k : ℕ) → k < n → f k ≤ℤ g k) → total n f ≤ℤ total n g
total_monotone zero f g h = omega (arith, ints)
total_monotone (suc n) f g h =
    let i = total_monotone n f g (λ (k : ℕ) (l : k < n). h k (omega arith)) in let e = h n (omega arith) in omega (arith, ints)

pub total-front : (n : ℕ) (f : ℕ → ℤ) → total (suc n) f ≡ f 0 +ℤ total n (λ k. f (suc k))
total-front zero f = omega (arith, ints)
total-front (suc n) f = let i = total-front n f in omega (arith, ints)

-- what a row of weights and then a column of numbers come to, through a matrix, in either order
pub total-through : (m n : ℕ) (u v : ℕ → ℤ) (r : ℕ → ℕ → ℤ)
    → total n (λ j. total m (λ i. u i *ℤ r i j) *ℤ v j) ≡ total m (λ i. u i *ℤ total n (λ j. r i j *ℤ v j))
total-through m n u v r =
    total-ext n (λ j. total m (λ i. u i *ℤ r i j) *ℤ v j) (λ j. total m (λ i. u i *ℤ (r i j *ℤ v j)))
    (λ (j : ℕ) (l : j < n). sym (total-scale_right m (v j) (λ i. u i *ℤ r i j))
    ∙ total-ext m (λ i. u i *ℤ r i j *ℤ v j) (λ i. u i *ℤ (r i j *ℤ v j)) (λ (i : ℕ) (k : i < m). simp ring))
    ∙ total-swap n m (λ j i. u i *ℤ (r i j *ℤ v j))
    ∙ total-ext m (λ i. total n (λ j. u i *ℤ (r i j *ℤ v j))) (λ i. u i *ℤ total n (λ j. r i j *ℤ v j))
    (λ (i : ℕ) (k : i < m). total-scale n (u i) (λ j. r i j *ℤ v j))
