-- What divides a number below the bound: of common multiples, of products, and of scales that are capped.
use Rattle.std.proofs.Common.{◌≡◌, ℕ, zero, suc, ◌*◌, ◌/◌, ◌<◌, ◌≤◌, min, sym, ap, subst, ◌∙◌, arith, ◌↔◌, ◌⊎◌, inl, inr}
use Rattle.std.specs.Prelude.{◌^◌}
use Rattle.std.specs.Int.{◌∣◌}
use Rattle.std.proofs.Math.Nat.{mul-div_cancel', dvd-mul_right, dvd-mul_left, dvd_of_mul-dvd-mul_left, mul-dvd-mul_left, mul-dvd-mul_right, mul_comm, zero-mul, mul-zero, min-eq_left, min-eq_right, min-le_right, eq-zero_of_zero-dvd}
use Rattle.std.proofs.lemmas.Nat.Gcd.{dvd_trans, dvd_refl, dvd_antisymm, le_of_dvd}
use Rattle.kf_frac.specs.Divisors.{lcm_of, first_multiple}
use Rattle.kf_frac.specs.Laws.{IsLcm}
use Rattle.kf_frac.proofs.CommonMultiples.{lcm_is}
use Rattle.kf_core.proofs.Scales.{lcm_divides}
use Rattle.kf_support.specs.Carried.{capped}

unfoldable pub bound : ℕ
bound = 2 ^ 127

pub below_or_not : (a b : ℕ) → (a < b) ⊎ (b ≤ a)
below_or_not a zero = inr (omega arith)
below_or_not zero (suc b) = inl (omega arith)
below_or_not (suc a) (suc b) = later (below_or_not a b)
  where
    later : (a < b) ⊎ (b ≤ a) → (suc a < suc b) ⊎ (suc b ≤ suc a)
    later (inl h) = inl (omega (arith, h))
    later (inr h) = inr (omega (arith, h))

-- ---- the least common multiple of two

no_zero : (m k : ℕ) → 0 < k → m ≡ 0 → m ∣ k → ⊥
no_zero m k p is d = let z : k ≡ 0 = eq-zero_of_zero-dvd (subst (λ n. n ∣ k) is d) in omega (arith, z, p)

lcm_zero_left : (b : ℕ) → lcm_of 0 b ≡ 0
unfolding lcm_of first_multiple
lcm_zero_left b = ap (λ n. first_multiple n 1 0 b) (zero-mul b)

lcm_zero_right : (a : ℕ) → lcm_of a 0 ≡ 0
unfolding lcm_of first_multiple
lcm_zero_right a = ap (λ n. first_multiple n 1 a 0) (mul-zero a)

times_zero : (x s : ℕ) → x ≡ 0 → x * s ≡ 0
times_zero x s is = ap (λ n. n * s) is ∙ zero-mul s

module _ (k : ℕ) (p : 0 < k) where
  both_to : (a b m s : ℕ) → IsLcm a b m → a * s ∣ k → b * s ∣ k → m * s ∣ k
  both_to a b m zero is l r = absurd (no_zero (a * 0) k p (mul-zero a) l)
  both_to a b m (suc t) is l r =
      let s : ℕ = suc t in
      let ek : s * (k / s) ≡ k = mul-div_cancel' s (dvd_trans s (dvd-mul_left s a) l) in
      let l' : a ∣ k / s = dvd_of_mul-dvd-mul_left {k = s} a {n = k / s} (omega arith) (subst (λ n. n ∣ s * (k / s)) (mul_comm a s) (subst (λ n. a * s ∣ n) (sym ek) l)) in
      let r' : b ∣ k / s = dvd_of_mul-dvd-mul_left {k = s} b {n = k / s} (omega arith) (subst (λ n. n ∣ s * (k / s)) (mul_comm b s) (subst (λ n. b * s ∣ n) (sym ek) r)) in
      subst (λ n. m * s ∣ n) ek (subst (λ n. n ∣ s * (k / s)) (mul_comm s m) (mul-dvd-mul_left m s (lcm_divides a b m (k / s) is l' r')))

  pub lcm_splits : (a b s : ℕ) → (lcm_of a b * s ∣ k) ↔ ((a * s ∣ k) × (b * s ∣ k))
  lcm_splits zero b s = (λ h. absurd (no_zero (lcm_of 0 b * s) k p (times_zero (lcm_of 0 b) s (lcm_zero_left b)) h), λ h. absurd (no_zero (0 * s) k p (zero-mul s) h.0))
  lcm_splits (suc a) zero s = (λ h. absurd (no_zero (lcm_of (suc a) 0 * s) k p (times_zero (lcm_of (suc a) 0) s (lcm_zero_right (suc a))) h), λ h. absurd (no_zero (0 * s) k p (zero-mul s) h.1))
  lcm_splits (suc a) (suc b) s =
      let is : IsLcm (suc a) (suc b) (lcm_of (suc a) (suc b)) = lcm_is (suc a) (suc b) (omega arith) (omega arith) in (
        λ h. (dvd_trans (suc a * s) (mul-dvd-mul_right (suc a) is.left s) h, dvd_trans (suc b * s) (mul-dvd-mul_right (suc b) is.right s) h),
        λ h. both_to (suc a) (suc b) (lcm_of (suc a) (suc b)) s is h.0 h.1,
      )

  -- ---- capped scales

  module _ (b : ℕ) (low : k < b) where
    too_great : (a s : ℕ) → b ≤ a → a * s ∣ k → ⊥
    too_great a s q h = let l : a ≤ k = le_of_dvd p (dvd_trans a (dvd-mul_right a s) h) in omega (arith, l, q, low)

    min_same : (a s : ℕ) → (a < b) ⊎ (b ≤ a) → (min a b * s ∣ k) ↔ (a * s ∣ k)
    min_same a s (inl h) =
        let e : min a b ≡ a = min-eq_left (omega (arith, h)) in
        (λ d. subst (λ n. n * s ∣ k) e d, λ d. subst (λ n. n * s ∣ k) (sym e) d)
    min_same a s (inr h) =
        let e : min a b ≡ b = min-eq_right h in
        (λ d. absurd (too_great b s (omega arith) (subst (λ n. n * s ∣ k) e d)), λ d. absurd (too_great a s h d))

  pub capped_same : k < bound → (a s : ℕ) → (capped a * s ∣ k) ↔ (a * s ∣ k)
  unfolding bound
  capped_same low a s = min_same (2 ^ 127) low a s (below_or_not a (2 ^ 127))

pub capped_bound : (a : ℕ) → capped a ≤ bound
unfolding bound
capped_bound a = min-le_right a (2 ^ 127)

pub one_bound : 1 ≤ bound
unfolding bound
one_bound = omega arith

-- ---- positive numbers

min_positive : (a b : ℕ) → 0 < a → 0 < b → (a < b) ⊎ (b ≤ a) → 0 < min a b
min_positive a b p q (inl h) = subst (λ n. 0 < n) (sym (min-eq_left {n = a} {m = b} (omega (arith, h)))) p
min_positive a b p q (inr h) = subst (λ n. 0 < n) (sym (min-eq_right {n = b} {m = a} h)) q

pub capped_positive : (a : ℕ) → 0 < a → 0 < capped a
capped_positive a p = min_positive a (2 ^ 127) p (omega arith) (below_or_not a (2 ^ 127))

pub lcm_positive : (a b : ℕ) → 0 < a → 0 < b → 0 < lcm_of a b
lcm_positive a b p q = let is : IsLcm a b (lcm_of a b) = lcm_is a b p q in is.positive

-- ---- a capped scale by what it divides

module _ (v c b : ℕ) (vp : 0 < v) (cp : 0 < c) (same : (k : ℕ) → 0 < k → k < b → (v ∣ k) ↔ (c ∣ k)) where
  by_places : v ≤ b → (v < b) ⊎ (b ≤ v) → (c < b) ⊎ (b ≤ c) → v ≡ min c b
  by_places up (inl l) (inl m) = dvd_antisymm ((same c cp m).1 (dvd_refl c)) ((same v vp l).0 (dvd_refl v)) ∙ sym (min-eq_left {n = c} {m = b} (omega (arith, m)))
  by_places up (inl l) (inr m) = let d : c ≤ v = le_of_dvd vp ((same v vp l).0 (dvd_refl v)) in absurd (omega (arith, d, l, m))
  by_places up (inr l) (inl m) = let d : v ≤ c = le_of_dvd cp ((same c cp m).1 (dvd_refl c)) in absurd (omega (arith, d, l, m))
  by_places up (inr l) (inr m) = let e : v ≡ b = omega (arith, up, l) in e ∙ sym (min-eq_right {n = b} {m = c} m)

pub is_capped : (v c : ℕ) → 0 < v → v ≤ bound → 0 < c → ((k : ℕ) → 0 < k → k < bound → (v ∣ k) ↔ (c ∣ k)) → v ≡ capped c
unfolding bound
is_capped v c vp up cp same = by_places v c (2 ^ 127) vp cp same up (below_or_not v (2 ^ 127)) (below_or_not c (2 ^ 127))
