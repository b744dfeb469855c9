-- Sums over lists and greatest numbers: what is at most what, and factors that they have in common.
use Rattle.std.proofs.Common.{◌≡◌, ℕ, zero, suc, ◌+◌, ◌*◌, ◌<◌, ◌≤◌, max, List, [], ◌∷◌, All, length, map, sum_by, flat_map, refl, ap, arith, slice_index, ⊎_elim}
use Rattle.std.proofs.Math.Nat.{mul-le-mul_left, mul-le-mul_right, le-max_left, le-max_right, max-eq_left, max-eq_right}
use Rattle.std.proofs.lemmas.Bool.{cases_lt}
use Rattle.std.proofs.lemmas.List.Elements.{All-head, All-tail}
use Rattle.std.proofs.lemmas.List.Recursion.{max_least}
use Rattle.std.proofs.lemmas.List.Sums.{sum_by-cons, sum_by-append}
use Rattle.kf_capacity.specs.Vulnerabilities.{greatest}

-- ---- sums

pub sum_none : {X : Type 0} (xs : List X) → sum_by (λ x. 0) xs ≡ 0
sum_none [] = refl
sum_none (x ∷ xs) = omega (arith, sum_by-cons (λ x. 0) x xs, sum_none xs)

module _ {X : Type 0} (f g : X → ℕ) where
  pub sum_same : (xs : List X) → All (λ x. f x ≡ g x) xs → sum_by f xs ≡ sum_by g xs
  sum_same [] same = refl
  sum_same (x ∷ xs) same =
      omega (arith, sum_by-cons f x xs, sum_by-cons g x xs, All-head (λ x. f x ≡ g x) x xs same, sum_same xs (All-tail (λ x. f x ≡ g x) x xs same))

  pub sum_both : (xs : List X) → sum_by (λ x. f x + g x) xs ≡ sum_by f xs + sum_by g xs
  sum_both [] = refl
  sum_both (x ∷ xs) = omega (arith, sum_by-cons f x xs, sum_by-cons g x xs, sum_by-cons (λ x. f x + g x) x xs, sum_both xs)

module _ {X : Type 0} (k : ℕ) (f : X → ℕ) where
  pub sum_times : (xs : List X) → sum_by (λ x. k * f x) xs ≡ k * sum_by f xs
  sum_times [] = omega arith
  sum_times (x ∷ xs) = omega (arith, ap (λ n. k * n) (sum_by-cons f x xs), sum_by-cons (λ x. k * f x) x xs, sum_times xs)

module _ {X Y : Type 0} (f : Y → ℕ) (g : X → List Y) where
  pub sum_flat : (xs : List X) → sum_by f (flat_map g xs) ≡ sum_by (λ x. sum_by f (g x)) xs
  sum_flat [] = refl
  sum_flat (x ∷ xs) = omega (arith, sum_by-append f (g x) (flat_map g xs), sum_by-cons (λ x. sum_by f (g x)) x xs, sum_flat xs)

-- ---- greatest numbers

pub at_most_greatest : (ns : List ℕ) (i : ℕ) → slice_index ns i ≤ greatest ns
at_most_greatest [] i = omega arith
at_most_greatest (n ∷ ns) zero = omega arith
at_most_greatest (n ∷ ns) (suc i) = omega (arith, at_most_greatest ns i)

pub greatest_within : (ns : List ℕ) (m : ℕ) → ((i : ℕ) → i < length ns → slice_index ns i ≤ m) → greatest ns ≤ m
greatest_within ns m within = max_least greatest (λ n. n) refl (λ _ _. refl) ns 0 m within

pub max_times : (m n k : ℕ) → max (m * k) (n * k) ≡ max m n * k
max_times m n k =
    ⊎_elim
    (λ (less : m < n). omega (arith, mul-le-mul_right {m = m} {n = n} k (omega arith), ap (λ p. p * k) (max-eq_right {n = m} {m = n} (omega arith))))
    (λ (least : n ≤ m). omega (arith, mul-le-mul_right k least, ap (λ p. p * k) (max-eq_left least)))
    (cases_lt m n)

module _ {X : Type 0} (f g : X → ℕ) where
  pub greatest_scaled : (k : ℕ) → ((x : X) → f x ≤ k * g x) → (xs : List X) → greatest (map f xs) ≤ k * greatest (map g xs)
  greatest_scaled k within [] = omega arith
  greatest_scaled k within (x ∷ xs) =
      omega (
        arith,
        within x,
        greatest_scaled k within xs,
        mul-le-mul_left k (le-max_left (g x) (greatest (map g xs))),
        mul-le-mul_left k (le-max_right (g x) (greatest (map g xs))),
      )

  pub greatest_both : (xs : List X) → greatest (map (λ x. f x + g x) xs) ≤ greatest (map f xs) + greatest (map g xs)
  greatest_both [] = omega arith
  greatest_both (x ∷ xs) = omega (arith, greatest_both xs)
