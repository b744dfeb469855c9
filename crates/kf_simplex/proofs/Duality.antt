-- Multipliers and solutions exclude one another.
use Rattle.std.proofs.Common.{◌≡◌, ℕ, ◌<◌, sym, ◌∙◌, arith}
use Rattle.std.proofs.Math.IntN.{pos, ◌*ℤ◌}
use Rattle.std.proofs.lemmas.Int.{ints}
use lib.Signed.{◌<ℤ◌, ◌≤ℤ◌}
use Rattle.kf_simplex.proofs.Sums.{total-ext, total-scale, total-swap, total_at_most}
use Rattle.kf_simplex.specs.Systems.{right_column}
use Rattle.kf_simplex.specs.Base.{total}
use Rattle.kf_simplex.specs.Laws.{WeakDuality}
use Rattle.kf_frac.proofs.Ring.{ring}
use Rattle.kf_simplex.proofs.Signs.{product_positive, product_at_most_zero}

-- the combined equation at a solution: nothing positive on the left, something positive on the right
pub weak_duality : WeakDuality
weak_duality s y f x d sol =
    let v = s.unknowns in
    let e = s.equations in
    let right : total e (λ k. y k *ℤ total v (λ j. s.number k j *ℤ x j)) ≡ d *ℤ total e (λ k. y k *ℤ s.number k (right_column s)) =
    total-ext e (λ k. y k *ℤ total v (λ j. s.number k j *ℤ x j)) (λ k. d *ℤ (y k *ℤ s.number k (right_column s)))
    (λ (k : ℕ) (l : k < e). rw (sol.equation k l) (simp ring))
    ∙ total-scale e d (λ k. y k *ℤ s.number k (right_column s)) in
    let left : total e (λ k. y k *ℤ total v (λ j. s.number k j *ℤ x j)) ≡ total v (λ j. x j *ℤ total e (λ k. y k *ℤ s.number k j)) =
    total-ext e (λ k. y k *ℤ total v (λ j. s.number k j *ℤ x j)) (λ k. total v (λ j. y k *ℤ (s.number k j *ℤ x j)))
    (λ (k : ℕ) (l : k < e). sym (total-scale v (y k) (λ j. s.number k j *ℤ x j)))
    ∙ total-swap e v (λ k j. y k *ℤ (s.number k j *ℤ x j))
    ∙ total-ext v (λ j. total e (λ k. y k *ℤ (s.number k j *ℤ x j))) (λ j. x j *ℤ total e (λ k. y k *ℤ s.number k j))
    (λ (j : ℕ) (l : j < v). total-ext e (λ k. y k *ℤ (s.number k j *ℤ x j)) (λ k. x j *ℤ (y k *ℤ s.number k j)) (λ (k : ℕ) (m : k < e). simp ring)
    ∙ total-scale e (x j) (λ k. y k *ℤ s.number k j)) in
    let low : total v (λ j. x j *ℤ total e (λ k. y k *ℤ s.number k j)) ≤ℤ pos 0 =
    total_at_most v (λ j. x j *ℤ total e (λ k. y k *ℤ s.number k j))
    (λ (j : ℕ) (l : j < v). product_at_most_zero (x j) (total e (λ k. y k *ℤ s.number k j)) (sol.not_negative j l) (f.unknowns j l)) in
    let high : pos 0 <ℤ (d *ℤ total e (λ k. y k *ℤ s.number k (right_column s))) = product_positive d (total e (λ k. y k *ℤ s.number k (right_column s))) sol.positive f.right in
    let same : total v (λ j. x j *ℤ total e (λ k. y k *ℤ s.number k j)) ≡ d *ℤ total e (λ k. y k *ℤ s.number k (right_column s)) = sym left ∙ right in
    omega (arith, ints)
