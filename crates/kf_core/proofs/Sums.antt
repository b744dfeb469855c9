-- Sums over lists by recursion, and what divides.
use Rattle.std.proofs.Common.{◌≡◌, ℕ, zero, suc, ◌+◌, ◌*◌, ◌/◌, ◌<◌, Bool, true, false, cond, List, [], ◌∷◌, ◌++◌, map, refl, sym, ap, subst, ◌∙◌, arith}
use Rattle.std.specs.Prelude.{filter, sum_by}
use Rattle.std.specs.List.{AllByRecursion as Each, flat_map}
use Rattle.std.specs.Int.{◌∣◌}
use Rattle.std.proofs.Math.Nat.{mul-div_cancel', mul-div_assoc, div-div-eq-div-mul, dvd-mul_right, dvd_of_mul-dvd-mul_left, add-mul-div_left, mul_comm, mul_assoc, zero-add, add-mul, zero-mul, mul-zero}
use Rattle.std.proofs.lemmas.List.Sums.{sum_by-cons}
use Rattle.std.proofs.lemmas.Nat.Gcd.{dvd_trans}

abbrev pub adds : {X : Type 0} → (X → ℕ) → List X → ℕ
adds f [] = 0
adds f (x ∷ xs) = f x + adds f xs

module _ {X : Type 0} (f : X → ℕ) where
  pub adds_joined : (xs ys : List X) → adds f (xs ++ ys) ≡ adds f xs + adds f ys
  adds_joined [] ys = sym (zero-add (adds f ys))
  adds_joined (x ∷ xs) ys = omega (arith, adds_joined xs ys)

module _ {X Y : Type 0} (f : Y → ℕ) (g : X → Y) where
  pub adds_mapped : (xs : List X) → adds f (map g xs) ≡ adds (λ x. f (g x)) xs
  adds_mapped [] = refl
  adds_mapped (x ∷ xs) = ap (λ n. f (g x) + n) (adds_mapped xs)

module _ {X Y : Type 0} (f : Y → ℕ) (g : X → List Y) where
  pub adds_flat : (xs : List X) → adds f (flat_map g xs) ≡ adds (λ x. adds f (g x)) xs
  adds_flat [] = refl
  adds_flat (x ∷ xs) = adds_joined f (g x) (flat_map g xs) ∙ ap (λ n. adds f (g x) + n) (adds_flat xs)

module _ {X : Type 0} (f g : X → ℕ) where
  pub adds_same : (xs : List X) → Each (λ x. f x ≡ g x) xs → adds f xs ≡ adds g xs
  adds_same [] h = refl
  adds_same (x ∷ xs) h = omega (arith, h.0, adds_same xs h.1)

  pub adds_both : (h : X → ℕ) (xs : List X) → Each (λ x. h x ≡ f x + g x) xs → adds h xs ≡ adds f xs + adds g xs
  adds_both h [] e = refl
  adds_both h (x ∷ xs) e = omega (arith, e.0, adds_both h xs e.1)

-- ---- the words of contracts

pub sum_is : {X : Type 0} (f : X → ℕ) (xs : List X) → sum_by f xs ≡ adds f xs
sum_is f [] = refl
sum_is f (x ∷ xs) = sum_by-cons f x xs ∙ ap (λ n. f x + n) (sum_is f xs)

module _ {X : Type 0} (f : X → ℕ) (q : X → Bool) where
  kept_at : (b : Bool) (x : X) (ys : List X) → sum_by f (cond b (x ∷ ys) ys) ≡ cond b (f x) 0 + sum_by f ys
  kept_at true x ys = sum_by-cons f x ys
  kept_at false x ys = omega arith

  pub sum_filtered : (xs : List X) → sum_by f (filter q xs) ≡ adds (λ x. cond (q x) (f x) 0) xs
  sum_filtered [] = refl
  sum_filtered (x ∷ xs) = kept_at (q x) x (filter q xs) ∙ ap (λ n. cond (q x) (f x) 0 + n) (sum_filtered xs)

pub adds_nothing : {X : Type 0} (xs : List X) → 0 ≡ adds (λ x. 0) xs
adds_nothing [] = refl
adds_nothing (x ∷ xs) = omega (arith, adds_nothing xs)

pub each_is : {X : Type 0} (f g : X → ℕ) → ((x : X) → f x ≡ g x) → (xs : List X) → adds f xs ≡ adds g xs
each_is f g h [] = refl
each_is f g h (x ∷ xs) = omega (arith, h x, each_is f g h xs)

-- ---- shares

pub divides_sum : (q a b : ℕ) → 0 < q → q ∣ a → q ∣ b → (a + b) / q ≡ a / q + b / q
divides_sum q a b p da db =
    ap (λ n. (a + n) / q) (sym (mul-div_cancel' q db)) ∙ add-mul-div_left a (b / q) p

-- one share after the other
module _ (v a b w : ℕ) (p : 0 < a) (d : a * b ∣ v) where
  pub share_divides : b ∣ v / a * w
  share_divides =
      let da : a ∣ v = dvd_trans a (dvd-mul_right a b) d in
      let e : a * (v / a) ≡ v = mul-div_cancel' a da in
      let db : b ∣ v / a = dvd_of_mul-dvd-mul_left {k = a} b {n = v / a} p (subst (λ n. a * b ∣ n) (sym e) d) in
      dvd_trans b db (dvd-mul_right (v / a) w)

  pub share_of_share : (u : ℕ) → v / (a * b) * (w * u) ≡ v / a * w / b * u
  share_of_share u =
      let da : a ∣ v = dvd_trans a (dvd-mul_right a b) d in
      let e : a * (v / a) ≡ v = mul-div_cancel' a da in
      let db : b ∣ v / a = dvd_of_mul-dvd-mul_left {k = a} b {n = v / a} p (subst (λ n. a * b ∣ n) (sym e) d) in
      ap (λ n. n * (w * u)) (sym (div-div-eq-div-mul v a b))
      ∙ sym (mul_assoc (v / a / b) w u)
      ∙ ap (λ n. n * u) (mul_comm (v / a / b) w ∙ sym (mul-div_assoc b w db) ∙ ap (λ n. n / b) (mul_comm w (v / a)))

pub share_of_sum : (q a b w : ℕ) → 0 < q → q ∣ a → q ∣ b → (a + b) / q * w ≡ a / q * w + b / q * w
share_of_sum q a b w p da db = ap (λ n. n * w) (divides_sum q a b p da db) ∙ add-mul (a / q) (b / q) w

pub first_positive : (a b : ℕ) → 0 < a * b → 0 < a
first_positive zero b p = absurd (omega (arith, p, zero-mul b))
first_positive (suc a) b p = omega arith

pub second_positive : (a b : ℕ) → 0 < a * b → 0 < b
second_positive a zero p = absurd (omega (arith, p, mul-zero a))
second_positive a (suc b) p = omega arith
