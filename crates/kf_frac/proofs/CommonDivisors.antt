-- The greatest common divisor is what its name says.
use Rattle.std.proofs.Common.{◌≡◌, ◌≢◌, ℕ, zero, suc, ◌+◌, ◌*◌, ◌/◌, ◌%◌, ◌<◌, ◌≤◌, max, refl, sym, ◌∙◌, ap, subst, arith, cond, true, false, Bool}
use Rattle.std.proofs.Math.Nat.{mod-lt, le-max_left, mul-dvd-mul_left, dvd_of_mul-dvd-mul_left, mul-div_cancel', dvd-mul_right, one-dvd, dvd-mul_left}
use Rattle.std.proofs.lemmas.Bool.Decides.{nat_tests}
use Rattle.std.proofs.lemmas.Nat.Gcd.{dvd_refl, dvd_trans, dvd-zero, dvd_antisymm, le_of_dvd, dvd_of_mod-eq-zero, mod-eq-zero_of_dvd, IsGcd-from_zero, IsGcd-from_mod, IsGcd-swap, le_from_IsGcd}
use Rattle.std.specs.Int.{IsGcd, ◌∣◌}
use Rattle.kf_frac.specs.Divisors.{divides_both, greatest_divisor, gcd_of}

-- ---- the search finds what divides both and is divided by all that do

-- there is a greatest common divisor
some_gcd : (k a b : ℕ) → b ≤ k → (g : ℕ) × IsGcd a b g
some_gcd k a zero h = (a, IsGcd-from_zero a zero refl)
some_gcd zero a (suc b) h = absurd (omega arith)
some_gcd (suc k) a (suc b) h =
    let low : a % suc b < suc b = mod-lt a (omega arith) in
    let r : (g : ℕ) × IsGcd (suc b) (a % suc b) g = some_gcd k (suc b) (a % suc b) (omega arith) in
    (r.0, IsGcd-from_mod a (suc b) r.0 r.1)

tested : (d a b : ℕ) → divides_both d a b ≡ true → (a % d ≡ 0) × (b % d ≡ 0)
tested d a b h = grind (arith, nat_tests)

refuted : (d a b : ℕ) → divides_both d a b ≡ false → a % d ≡ 0 → b % d ≡ 0 → ⊥
refuted d a b h p q = grind (arith, nat_tests)

pub by_test : (t : Bool) (k r g : ℕ) → (t ≡ true → k ≡ g) → (t ≡ false → r ≡ g) → cond t k r ≡ g
by_test true k r g p q = p refl
by_test false k r g p q = q refl

found : (k a b g : ℕ) → 0 < g → g ≤ k → IsGcd a b g → greatest_divisor k a b ≡ g
unfolding greatest_divisor
found zero a b g p h is = omega arith
found (suc k) a b g p h is =
    by_test (divides_both (suc k) a b) (suc k) (greatest_divisor k a b) g
    (λ (yes' : divides_both (suc k) a b ≡ true).
    let e : (a % suc k ≡ 0) × (b % suc k ≡ 0) = tested (suc k) a b yes' in
    let low : suc k ≤ g = le_from_IsGcd a b g (suc k) is p (dvd_of_mod-eq-zero (suc k) e.0) (dvd_of_mod-eq-zero (suc k) e.1) in
    omega arith)
    (λ (no' : divides_both (suc k) a b ≡ false).
    let other : g ≢ suc k = λ (e : g ≡ suc k).
    refuted (suc k) a b no'
    (mod-eq-zero_of_dvd (suc k) (subst (λ (n : ℕ). n ∣ a) e is.0))
    (mod-eq-zero_of_dvd (suc k) (subst (λ (n : ℕ). n ∣ b) e is.1)) in
    found k a b g p (omega arith) is)

-- only 0 is a multiple of 0
zero_divides : (n : ℕ) → 0 ∣ n → n ≡ 0
zero_divides n h = dvd_antisymm (dvd-zero n) h

positive : (a b g : ℕ) → 0 < a + b → IsGcd a b g → 0 < g
positive a b (suc g) p is = omega arith
positive a b zero p is = omega (arith, zero_divides a is.0, zero_divides b is.1)

bounded : (a b g : ℕ) → 0 < a + b → IsGcd a b g → g ≤ max a b
bounded zero b g p is = let h : g ≤ b = le_of_dvd (omega arith) is.1 in omega arith
bounded (suc a) b g p is = let h : g ≤ suc a = le_of_dvd (omega arith) is.0 in omega (arith, le-max_left (suc a) b)

the_gcd : (a b g : ℕ) → IsGcd a b g → gcd_of a b ≡ g
unfolding gcd_of greatest_divisor
the_gcd zero zero g is = sym (zero_divides g (is.2 0 (dvd-zero 0) (dvd-zero 0)))
the_gcd zero (suc b) g is = found (max zero (suc b)) zero (suc b) g (positive zero (suc b) g (omega arith) is) (bounded zero (suc b) g (omega arith) is) is
the_gcd (suc a) b g is = found (max (suc a) b) (suc a) b g (positive (suc a) b g (omega arith) is) (bounded (suc a) b g (omega arith) is) is

-- `gcd_of` is the greatest common divisor also by divisibility
pub gcd_is : (a b : ℕ) → IsGcd a b (gcd_of a b)
gcd_is a b = let r : (g : ℕ) × IsGcd a b g = some_gcd b a b (omega arith) in subst (λ (n : ℕ). IsGcd a b n) (sym (the_gcd a b r.0 r.1)) r.1

pub gcd_is_the : (a b g : ℕ) → IsGcd a b g → g ≡ gcd_of a b
gcd_is_the a b g h = sym (the_gcd a b g h)

-- that of a number and itself
pub gcd_of_equals : (a b : ℕ) → a ≡ b → a ≡ gcd_of a b
gcd_of_equals a b e = gcd_is_the a b a (dvd_refl a, subst (λ (n : ℕ). a ∣ n) e (dvd_refl a), λ d l m. l)

pub gcd_positive : (a b : ℕ) → 0 < b → 0 < gcd_of a b
gcd_positive a b p = positive a b (gcd_of a b) (omega arith) (gcd_is a b)

-- ---- laws

pub gcd_swap : (a b : ℕ) → gcd_of a b ≡ gcd_of b a
gcd_swap a b = the_gcd a b (gcd_of b a) (IsGcd-swap b a (gcd_of b a) (gcd_is b a))

-- the quotients by the greatest common divisor have no common factor
pub gcd_quotients : (a b : ℕ) → 0 < b → gcd_of (a / gcd_of a b) (b / gcd_of a b) ≡ 1
gcd_quotients a b p =
    let g : ℕ = gcd_of a b in
    let is : IsGcd a b g = gcd_is a b in
    let q : 0 < g = gcd_positive a b p in
    let ea : g * (a / g) ≡ a = mul-div_cancel' g is.0 in
    let eb : g * (b / g) ≡ b = mul-div_cancel' g is.1 in
    the_gcd (a / g) (b / g) 1 (
      one-dvd (a / g),
      one-dvd (b / g),
      λ (d : ℕ) (da : d ∣ a / g) (db : d ∣ b / g).
          let both : g * d ∣ g = is.2 (g * d)
          (subst (λ (n : ℕ). g * d ∣ n) ea (mul-dvd-mul_left d g da))
          (subst (λ (n : ℕ). g * d ∣ n) eb (mul-dvd-mul_left d g db)) in
          dvd_of_mul-dvd-mul_left {k = g} d {n = 1} q (subst (λ (n : ℕ). g * d ∣ n) (omega arith) both),
    )

zero_both : (a b : ℕ) → a ≡ 0 → b ≡ 0 → gcd_of a b ≡ 0
unfolding gcd_of greatest_divisor
zero_both zero zero p q = refl
zero_both (suc a) b p q = absurd (omega arith)
zero_both zero (suc b) p q = absurd (omega arith)

-- the greatest common divisor of two multiples
pub gcd_multiples : (k a b : ℕ) → gcd_of (k * a) (k * b) ≡ k * gcd_of a b
gcd_multiples zero a b = zero_both (0 * a) (0 * b) (omega arith) (omega arith) ∙ omega arith
gcd_multiples (suc k) a b =
    let n : ℕ = suc k in
    let g : ℕ = gcd_of (n * a) (n * b) in
    let is : IsGcd (n * a) (n * b) g = gcd_is (n * a) (n * b) in
    let m : ℕ = g / n in
    let e : n * m ≡ g = mul-div_cancel' n (is.2 n (dvd-mul_right n a) (dvd-mul_right n b)) in
    let quotient : IsGcd a b m = (
      dvd_of_mul-dvd-mul_left m (omega arith) (subst (λ (x : ℕ). x ∣ n * a) (sym e) is.0),
      dvd_of_mul-dvd-mul_left m (omega arith) (subst (λ (x : ℕ). x ∣ n * b) (sym e) is.1),
      λ (d : ℕ) (da : d ∣ a) (db : d ∣ b). dvd_of_mul-dvd-mul_left {k = n} d (omega arith)
          (subst (λ (x : ℕ). n * d ∣ x) (sym e) (is.2 (n * d) (mul-dvd-mul_left d n da) (mul-dvd-mul_left d n db))),
    ) in
    sym e ∙ ap (λ (x : ℕ). n * x) (sym (the_gcd a b m quotient))

-- ---- numbers without common factor

-- what divides a product and has no common factor with one part divides the other
pub divides_other : (d a b : ℕ) → gcd_of a d ≡ 1 → d ∣ b * a → d ∣ b
divides_other d a b h p =
    let both : d ∣ gcd_of (b * a) (b * d) = (gcd_is (b * a) (b * d)).2 d p (dvd-mul_left d b) in
    subst (λ (n : ℕ). d ∣ n) (gcd_multiples b a d ∙ ap (λ (n : ℕ). b * n) h ∙ omega arith) both

-- what divides a number has no common factor with what that number has none with
pub coprime_part : (a d k : ℕ) → gcd_of a d ≡ 1 → k ∣ d → gcd_of a k ≡ 1
coprime_part a d k h p =
    let g : ℕ = gcd_of a k in
    let l : g ∣ gcd_of a d = (gcd_is a d).2 g (gcd_is a k).0 (dvd_trans g (gcd_is a k).1 p) in
    dvd_antisymm (subst (λ (n : ℕ). g ∣ n) h l) (one-dvd g)

-- a product has no common factor with what neither part has one with
pub coprime_product : (a b d : ℕ) → gcd_of a d ≡ 1 → gcd_of b d ≡ 1 → gcd_of (a * b) d ≡ 1
coprime_product a b d p q =
    sym (gcd_is_the (a * b) d 1 (
      one-dvd (a * b),
      one-dvd d,
      λ (k : ℕ) (l : k ∣ a * b) (m : k ∣ d).
          let apart : gcd_of b k ≡ 1 = coprime_part b d k q m in
          subst (λ (n : ℕ). k ∣ n) p ((gcd_is a d).2 k (divides_other k b a apart l) m),
    ))
