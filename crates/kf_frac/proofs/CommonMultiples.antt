-- The least common multiple is what its name says.
use Rattle.std.proofs.Common.{◌≡◌, ◌≢◌, ℕ, zero, suc, ◌+◌, ◌*◌, ◌/◌, ◌%◌, ◌<◌, ◌≤◌, ◌==◌, ◌&&◌, refl, sym, ◌∙◌, ap, subst, arith, true, false}
use Rattle.std.proofs.Math.Nat.{mul-div_cancel', dvd-mul_right, dvd-mul_left, dvd_of_mul-dvd-mul_left, mul-dvd-mul_left}
use Rattle.std.proofs.lemmas.Bool.Decides.{nat_tests}
use Rattle.std.proofs.lemmas.Nat.Gcd.{le_of_dvd, dvd_of_mod-eq-zero, mod-eq-zero_of_dvd}
use Rattle.std.specs.Int.{IsGcd, ◌∣◌}
use Rattle.kf_frac.specs.Divisors.{gcd_of, first_multiple, lcm_of}
use Rattle.kf_frac.specs.Laws.{IsLcm}
use Rattle.kf_frac.proofs.CommonDivisors.{gcd_is, gcd_positive, gcd_quotients, divides_other, by_test}

-- ---- the product of two numbers over their greatest common divisor

-- it divides every common multiple
quotient_divides : (a b k : ℕ) → 0 < b → a ∣ k → b ∣ k → a / gcd_of a b * b ∣ k
quotient_divides a b k pos_b l r =
    let g : ℕ = gcd_of a b in
    let p : ℕ = a / g in
    let q : ℕ = b / g in
    let x : ℕ = k / a in
    let is : IsGcd a b g = gcd_is a b in
    let ea : g * p ≡ a = mul-div_cancel' g is.0 in
    let eb : g * q ≡ b = mul-div_cancel' g is.1 in
    let ek : a * x ≡ k = mul-div_cancel' a l in
    let ek' : g * (x * p) ≡ k = omega (arith, ap (λ (n : ℕ). n * x) ea) in
    let one : q ∣ x * p = dvd_of_mul-dvd-mul_left {k = g} q {n = x * p} (gcd_positive a b pos_b)
    (subst (λ (n : ℕ). n ∣ g * (x * p)) (sym eb) (subst (λ (n : ℕ). b ∣ n) (sym ek') r)) in
    let two : a * q ∣ a * x = mul-dvd-mul_left q a (divides_other q p x (gcd_quotients a b pos_b) one) in
    let ep : a * q ≡ p * b = omega (arith, ap (λ (n : ℕ). n * q) ea, ap (λ (n : ℕ). p * n) eb) in
    subst (λ (n : ℕ). n ∣ k) ep (subst (λ (n : ℕ). a * q ∣ n) ek two)

pub product_positive : (a b : ℕ) → 0 < a → 0 < b → 0 < a * b
product_positive zero b p q = absurd (omega arith)
product_positive (suc a) zero p q = absurd (omega arith)
product_positive (suc a) (suc b) p q = omega arith

factor_positive : (g p a : ℕ) → g * p ≡ a → 0 < a → 0 < p
factor_positive g zero a e h = omega arith
factor_positive g (suc p) a e h = omega arith

pub quotient_is : (a b m : ℕ) → 0 < a → 0 < b → m ≡ a / gcd_of a b * b → IsLcm a b m
quotient_is a b m pos_a pos_b e =
    let g : ℕ = gcd_of a b in
    let p : ℕ = a / g in
    let q : ℕ = b / g in
    let is : IsGcd a b g = gcd_is a b in
    let ea : g * p ≡ a = mul-div_cancel' g is.0 in
    let eb : g * q ≡ b = mul-div_cancel' g is.1 in
    let em : a * q ≡ m = omega (arith, ap (λ (n : ℕ). n * q) ea, ap (λ (n : ℕ). p * n) eb) in
    record {
      positive = rw e (product_positive p b (factor_positive g p a ea pos_a) pos_b);
      left = subst (λ (n : ℕ). a ∣ n) em (dvd-mul_right a q);
      right = rw e (dvd-mul_left b p);
      least = λ (k : ℕ) (h : 0 < k) (l : a ∣ k) (r : b ∣ k). rw e (le_of_dvd h (quotient_divides a b k pos_b l r));
    }

pub same_lcm : (a b m n : ℕ) → IsLcm a b m → IsLcm a b n → m ≡ n
same_lcm a b m n h k =
    let x : m ≤ n = h.least n k.positive k.left k.right in
    let y : n ≤ m = k.least m h.positive h.left h.right in omega arith

-- ---- the search finds it

tested : (a b m : ℕ) → ((m % a == 0) && (m % b == 0)) ≡ true → (m % a ≡ 0) × (m % b ≡ 0)
tested a b m h = grind (arith, nat_tests)

refuted : (a b m : ℕ) → ((m % a == 0) && (m % b == 0)) ≡ false → m % a ≡ 0 → m % b ≡ 0 → ⊥
refuted a b m h p q = grind (arith, nat_tests)

found : (k m a b l : ℕ) → 0 < m → m ≤ l → l < m + k → IsLcm a b l → first_multiple k m a b ≡ l
unfolding first_multiple
found zero m a b l z p q is = absurd (omega arith)
found (suc k) m a b l z p q is =
    by_test ((m % a == 0) && (m % b == 0)) m (first_multiple k (suc m) a b) l
    (λ (t : ((m % a == 0) && (m % b == 0)) ≡ true).
    let e : (m % a ≡ 0) × (m % b ≡ 0) = tested a b m t in
    let low : l ≤ m = is.least m z (dvd_of_mod-eq-zero a e.0) (dvd_of_mod-eq-zero b e.1) in
    omega arith)
    (λ (t : ((m % a == 0) && (m % b == 0)) ≡ false).
    let other : l ≢ m = λ (e : l ≡ m).
    refuted a b m t
    (mod-eq-zero_of_dvd a (subst (λ (n : ℕ). a ∣ n) e is.left))
    (mod-eq-zero_of_dvd b (subst (λ (n : ℕ). b ∣ n) e is.right)) in
    found k (suc m) a b l (omega arith) (omega arith) (omega arith) is)

-- `lcm_of` is the least common multiple
pub lcm_is_the : (a b m : ℕ) → 0 < a → 0 < b → IsLcm a b m → m ≡ lcm_of a b
unfolding lcm_of
lcm_is_the a b m p q is =
    let low : m ≤ a * b = is.least (a * b) (product_positive a b p q) (dvd-mul_right a b) (dvd-mul_left b a) in
    let high : 0 < m = is.positive in
    sym (found (a * b) 1 a b m (omega arith) (omega arith) (omega arith) is)

pub lcm_quotient : (a b : ℕ) → 0 < a → 0 < b → lcm_of a b ≡ a / gcd_of a b * b
lcm_quotient a b p q = sym (lcm_is_the a b (a / gcd_of a b * b) p q (quotient_is a b (a / gcd_of a b * b) p q refl))

pub lcm_is : (a b : ℕ) → 0 < a → 0 < b → IsLcm a b (lcm_of a b)
lcm_is a b p q = quotient_is a b (lcm_of a b) p q (lcm_quotient a b p q)

-- what the code multiplies
pub lcm_known : (a b g : ℕ) → g ≡ gcd_of a b → 1 ≤ a → 1 ≤ b → lcm_of a b ≡ a / g * b
lcm_known a b g e p q = lcm_quotient a b p q ∙ ap (λ (n : ℕ). a / n * b) (sym e)

pub lcm_known_is : (a b g m : ℕ) → g ≡ gcd_of a b → 1 ≤ a → 1 ≤ b → m ≡ a / g * b → IsLcm a b m
lcm_known_is a b g m e p q h = quotient_is a b m p q (h ∙ ap (λ (n : ℕ). a / n * b) e)
