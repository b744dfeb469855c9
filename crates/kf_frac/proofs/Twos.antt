-- Powers of two that numbers of 128 bits have.
use Rattle.std.proofs.Common.{◌≡◌, ◌≢◌, ℕ, zero, suc, ◌+◌, ◌*◌, ◌/◌, ◌%◌, ◌^◌, ◌<◌, ◌≤◌, min, refl, sym, ◌∙◌, ap, subst, arith}
use Rattle.std.proofs.Math.Nat.{mod-eq_of_lt, div-div-eq-div-mul}
use Rattle.std.proofs.lemmas.Nat.{shr_split, mod-pow-add}
use Rattle.std.proofs.lemmas.Nat.Bits.{bit_at-zero, bit_at-trailing_zeros}
use Rattle.std.proofs.lemmas.Nat.Gcd.{le_of_dvd}
use Rattle.std.specs.Int.{bit_at, trailing_zeros, w128}
use Rattle.kf_frac.specs.Divisors.{gcd_of}
use Rattle.kf_frac.proofs.CommonDivisors.{gcd_is, gcd_multiples}

-- the last z binary digits are 0
abbrev IsEven : ℕ → ℕ → Type 0
IsEven n z = (i : ℕ) → i < z → bit_at n i ≡ 0

even_mod : (n z : ℕ) → IsEven n z → n % 2 ^ z ≡ 0
even_mod n zero h = omega arith
even_mod n (suc z) h =
    let below : n % 2 ^ z ≡ 0 = even_mod n z (λ i p. h i (omega arith)) in
    let last : n / 2 ^ z % 2 ^ 1 ≡ 0 = h z (omega arith) in
    let both : n % 2 ^ (1 + z) ≡ 0 = mod-pow-add n 1 z ∙ omega (arith, below, ap (λ k. k * 2 ^ z) last) in
    subst (λ k. n % 2 ^ k ≡ 0) (omega arith) both

whole : (n z : ℕ) → IsEven n z → 2 ^ z * (n / 2 ^ z) ≡ n
whole n z h = omega (arith, shr_split n z, even_mod n z h)

-- a number has the powers of two that are counted
counted : (n z : ℕ) → n < 2 ^ 128 → z ≤ trailing_zeros w128 n → IsEven n z
counted zero z small h = λ i p. bit_at-zero i
counted (suc n) z small h = λ i p. (bit_at-trailing_zeros w128 (suc n) (omega arith) small).2 i (omega arith)

-- ---- the greatest common divisor

below : (a b bound : ℕ) → a ≢ b → a < bound → b < bound → gcd_of a b < bound
below zero zero bound apart p q = absurd (apart refl)
below (suc a) b bound apart p q = let n : gcd_of (suc a) b ≤ suc a = le_of_dvd (omega arith) (gcd_is (suc a) b).0 in omega arith
below zero (suc b) bound apart p q = let n : gcd_of zero (suc b) ≤ suc b = le_of_dvd (omega arith) (gcd_is zero (suc b)).1 in omega arith

gcd_shifted : (a b z : ℕ) → IsEven a z → IsEven b z → gcd_of (a / 2 ^ z) (b / 2 ^ z) * 2 ^ z ≡ gcd_of a b
gcd_shifted a b z ea eb =
    let long : gcd_of (2 ^ z * (a / 2 ^ z)) (2 ^ z * (b / 2 ^ z)) ≡ 2 ^ z * gcd_of (a / 2 ^ z) (b / 2 ^ z) = gcd_multiples (2 ^ z) (a / 2 ^ z) (b / 2 ^ z) in
    omega (arith, long) ∙ sym long ∙ ap (λ n. gcd_of n (2 ^ z * (b / 2 ^ z))) (whole a z ea) ∙ ap (gcd_of a) (whole b z eb)

-- the greatest common divisor, with the powers of two that both numbers have set aside and put back
pub gcd_by_twos : (a b z g : ℕ) → a ≢ b → a < 2 ^ 128 → b < 2 ^ 128 → z ≡ min (trailing_zeros w128 a) (trailing_zeros w128 b)
    → g ≡ gcd_of (a / 2 ^ z) (b / 2 ^ z) → g * 2 ^ z % 2 ^ 128 ≡ gcd_of a b
gcd_by_twos a b z g apart p q is e =
    let same : g * 2 ^ z ≡ gcd_of a b = ap (λ n. n * 2 ^ z) e ∙ gcd_shifted a b z (counted a z p (omega (arith, is))) (counted b z q (omega (arith, is))) in
    ap (λ n. n % 2 ^ 128) same ∙ mod-eq_of_lt (below a b (2 ^ 128) apart p q)

-- ---- quotients

module _ (b z : ℕ) (some : 0 < b) (small : b < 2 ^ 128) (is : z ≡ trailing_zeros w128 b) where
  back : 2 ^ z * (b / 2 ^ z) ≡ b
  back = whole b z (counted b z small (omega (arith, is)))

  pub shifted_some : 0 < b / 2 ^ z
  shifted_some = at (b / 2 ^ z) refl where
    at : (n : ℕ) → n ≡ b / 2 ^ z → 0 < b / 2 ^ z
    at zero e = absurd (omega (arith, back, ap (λ k. 2 ^ z * k) e))
    at (suc n) e = omega (arith, e)

  -- the powers of two that the divisor has can be set aside
  pub quotient_by_twos : (a x y r : ℕ) → x ≡ a / 2 ^ z → y ≡ b / 2 ^ z → r ≡ x / y → r ≡ a / b
  quotient_by_twos a x y r ex ey er = er ∙ ap (λ n. n / y) ex ∙ ap (λ n. a / 2 ^ z / n) ey ∙ div-div-eq-div-mul a (2 ^ z) (b / 2 ^ z) ∙ ap (λ n. a / n) back
