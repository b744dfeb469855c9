-- Sums and products of fractions over other denominators.
use Rattle.std.proofs.Common.{◌≡◌, ℕ, ◌*◌, ◌/◌, ◌<◌, Bool, true, false, ℤ, pos, ◌+ℤ◌, ◌*ℤ◌, unsigned_abs, refl, sym, ◌∙◌, ap, subst, arith}
use Rattle.std.proofs.Math.Nat.{mul-div_cancel', div-mul_cancel, mul-div-mul_left, div-eq_of_eq-mul_left, div-le_self, mul_comm}
use Rattle.std.specs.Int.{IsGcd}
use Rattle.kf_frac.specs.Divisors.{gcd_of, lcm_of}
use Rattle.kf_frac.specs.Fractions.{reduced_num, reduced_den}
use Rattle.kf_frac.specs.Parts.{signed, PartsFit}
use Rattle.kf_frac.proofs.CommonDivisors.{gcd_is, gcd_positive, gcd_multiples}
use Rattle.kf_frac.proofs.CommonMultiples.{lcm_quotient}
use Rattle.kf_frac.proofs.LowestTerms.{reduced_num_signed, reduced_den_signed, signed_parts, reduced_num_abs, reduced_den_is}
use Rattle.kf_frac.proofs.Ring.{add_mul, mul_assoc, neg_mul}

-- ---- products

pub signed_times : (negative : Bool) (m k : ℕ) → signed negative (m * k) ≡ signed negative m *ℤ pos k
signed_times false m k = refl
signed_times true m k = sym (neg_mul (pos m) (pos k))

-- a common factor of both parts changes nothing
pub scaled_quotients : (m d k : ℕ) → 0 < k → (m * k / gcd_of (m * k) (d * k) ≡ m / gcd_of m d) × (d * k / gcd_of (m * k) (d * k) ≡ d / gcd_of m d)
scaled_quotients m d k p =
    let e : gcd_of (m * k) (d * k) ≡ k * gcd_of m d =
    ap (λ (x : ℕ). gcd_of x (d * k)) (mul_comm m k) ∙ ap (λ (x : ℕ). gcd_of (k * m) x) (mul_comm d k) ∙ gcd_multiples k m d in (
      ap (λ (x : ℕ). m * k / x) e ∙ ap (λ (x : ℕ). x / (k * gcd_of m d)) (mul_comm m k) ∙ mul-div-mul_left m (gcd_of m d) p,
      ap (λ (x : ℕ). d * k / x) e ∙ ap (λ (x : ℕ). x / (k * gcd_of m d)) (mul_comm d k) ∙ mul-div-mul_left d (gcd_of m d) p,
    )

pub reduced_num_scaled : (n : ℤ) (d k : ℕ) → 0 < k → reduced_num (n *ℤ pos k) (d * k) ≡ reduced_num n d
reduced_num_scaled n d k p =
    let s : (negative : Bool) × (signed negative (unsigned_abs n) ≡ n) = signed_parts n in
    subst (λ (z : ℤ). reduced_num (z *ℤ pos k) (d * k) ≡ reduced_num z d) s.1
    (ap (λ (z : ℤ). reduced_num z (d * k)) (sym (signed_times s.0 (unsigned_abs n) k))
    ∙ reduced_num_signed s.0 (unsigned_abs n * k) (d * k)
    ∙ ap (λ (x : ℕ). signed s.0 x) (scaled_quotients (unsigned_abs n) d k p).0
    ∙ sym (reduced_num_signed s.0 (unsigned_abs n) d))

pub reduced_den_scaled : (n : ℤ) (d k : ℕ) → 0 < k → reduced_den (n *ℤ pos k) (d * k) ≡ reduced_den n d
reduced_den_scaled n d k p =
    let s : (negative : Bool) × (signed negative (unsigned_abs n) ≡ n) = signed_parts n in
    subst (λ (z : ℤ). reduced_den (z *ℤ pos k) (d * k) ≡ reduced_den z d) s.1
    (ap (λ (z : ℤ). reduced_den z (d * k)) (sym (signed_times s.0 (unsigned_abs n) k))
    ∙ reduced_den_signed s.0 (unsigned_abs n * k) (d * k)
    ∙ (scaled_quotients (unsigned_abs n) d k p).1
    ∙ sym (reduced_den_signed s.0 (unsigned_abs n) d))

-- fractions that are equal by cross products have the same lowest terms
pub same_num : (n k : ℤ) (d e : ℕ) → 0 < d → 0 < e → n *ℤ pos e ≡ k *ℤ pos d → reduced_num n d ≡ reduced_num k e
same_num n k d e p q h =
    sym (reduced_num_scaled n d e q)
    ∙ ap (λ (z : ℤ). reduced_num z (d * e)) h
    ∙ ap (λ (x : ℕ). reduced_num (k *ℤ pos d) x) (mul_comm d e)
    ∙ reduced_num_scaled k e d p

pub same_den : (n k : ℤ) (d e : ℕ) → 0 < d → 0 < e → n *ℤ pos e ≡ k *ℤ pos d → reduced_den n d ≡ reduced_den k e
same_den n k d e p q h =
    sym (reduced_den_scaled n d e q)
    ∙ ap (λ (z : ℤ). reduced_den z (d * e)) h
    ∙ ap (λ (x : ℕ). reduced_den (k *ℤ pos d) x) (mul_comm d e)
    ∙ reduced_den_scaled k e d p

-- parts within the limit stay there in lowest terms
pub reduced_fit : (n : ℤ) (d : ℕ) → PartsFit n d → PartsFit (reduced_num n d) (reduced_den n d)
reduced_fit n d h =
    let g : ℕ = gcd_of (unsigned_abs n) d in
    record {
      num = rw (reduced_num_abs n d) (omega (arith, div-le_self (unsigned_abs n) g, h.num));
      den = rw (reduced_den_is n d) (omega (arith, div-le_self d g, h.den));
    }

-- ---- a sum over the least common multiple

-- the quotients of the least common multiple by its parts
pub lcm_over_left : (d e : ℕ) → 0 < d → 0 < e → lcm_of d e / d * gcd_of d e ≡ e
lcm_over_left d e p q =
    let g : ℕ = gcd_of d e in
    let is : IsGcd d e g = gcd_is d e in
    let ed : g * (d / g) ≡ d = mul-div_cancel' g is.0 in
    let ee : g * (e / g) ≡ e = mul-div_cancel' g is.1 in
    let l : lcm_of d e ≡ d / g * e = lcm_quotient d e p q in
    let swap : d / g * e ≡ e / g * d = omega (arith, ap (λ (x : ℕ). d / g * x) ee, ap (λ (x : ℕ). e / g * x) ed) in
    ap (λ (x : ℕ). x * g) (div-eq_of_eq-mul_left p (l ∙ swap)) ∙ div-mul_cancel g is.1

pub lcm_over_right : (d e : ℕ) → 0 < d → 0 < e → lcm_of d e / e * gcd_of d e ≡ d
lcm_over_right d e p q =
    ap (λ (x : ℕ). x * gcd_of d e) (div-eq_of_eq-mul_left q (lcm_quotient d e p q)) ∙ div-mul_cancel (gcd_of d e) (gcd_is d e).0

pub lcm_times_gcd : (d e : ℕ) → 0 < d → 0 < e → lcm_of d e * gcd_of d e ≡ d * e
lcm_times_gcd d e p q =
    let g : ℕ = gcd_of d e in
    let ed : g * (d / g) ≡ d = mul-div_cancel' g (gcd_is d e).0 in
    ap (λ (x : ℕ). x * g) (lcm_quotient d e p q) ∙ omega (arith, ap (λ (x : ℕ). x * e) ed)

spread : (n k : ℤ) (x y g d e : ℕ) → x * g ≡ e → y * g ≡ d
    → n *ℤ pos e +ℤ k *ℤ pos d ≡ (n *ℤ pos x +ℤ k *ℤ pos y) *ℤ pos g
spread n k x y g d e ex ey =
    let left : n *ℤ pos x *ℤ pos g ≡ n *ℤ pos e = mul_assoc n (pos x) (pos g) ∙ ap (λ (z : ℕ). n *ℤ pos z) ex in
    let right : k *ℤ pos y *ℤ pos g ≡ k *ℤ pos d = mul_assoc k (pos y) (pos g) ∙ ap (λ (z : ℕ). k *ℤ pos z) ey in
    sym (add_mul (pos g) (n *ℤ pos x) (k *ℤ pos y)
    ∙ ap (λ (z : ℤ). z +ℤ k *ℤ pos y *ℤ pos g) left
    ∙ ap (λ (z : ℤ). n *ℤ pos e +ℤ z) right)

-- the cross sum is that over the least common multiple, times the greatest common divisor
pub cross_sum : (n k : ℤ) (d e : ℕ) → 0 < d → 0 < e
    → n *ℤ pos e +ℤ k *ℤ pos d ≡ (n *ℤ pos (lcm_of d e / d) +ℤ k *ℤ pos (lcm_of d e / e)) *ℤ pos (gcd_of d e)
cross_sum n k d e p q =
    spread n k (lcm_of d e / d) (lcm_of d e / e) (gcd_of d e) d e (lcm_over_left d e p q) (lcm_over_right d e p q)

-- the lowest terms of the sum over the least common multiple are those of the cross sum
pub sum_num_reduced : (n k s : ℤ) (d e m : ℕ) → 0 < d → 0 < e → m ≡ lcm_of d e → s ≡ n *ℤ pos (m / d) +ℤ k *ℤ pos (m / e)
    → reduced_num s m ≡ reduced_num (n *ℤ pos e +ℤ k *ℤ pos d) (d * e)
sum_num_reduced n k s d e m p q h is =
    let z : ℤ = n *ℤ pos (lcm_of d e / d) +ℤ k *ℤ pos (lcm_of d e / e) in
    let t : s ≡ z = is ∙ ap (λ (x : ℕ). n *ℤ pos (x / d) +ℤ k *ℤ pos (x / e)) h in
    ap (λ (x : ℤ). reduced_num x m) t
    ∙ ap (λ (x : ℕ). reduced_num z x) h
    ∙ sym (reduced_num_scaled z (lcm_of d e) (gcd_of d e) (gcd_positive d e q))
    ∙ ap (λ (x : ℤ). reduced_num x (lcm_of d e * gcd_of d e)) (sym (cross_sum n k d e p q))
    ∙ ap (λ (x : ℕ). reduced_num (n *ℤ pos e +ℤ k *ℤ pos d) x) (lcm_times_gcd d e p q)

pub sum_den_reduced : (n k s : ℤ) (d e m : ℕ) → 0 < d → 0 < e → m ≡ lcm_of d e → s ≡ n *ℤ pos (m / d) +ℤ k *ℤ pos (m / e)
    → reduced_den s m ≡ reduced_den (n *ℤ pos e +ℤ k *ℤ pos d) (d * e)
sum_den_reduced n k s d e m p q h is =
    let z : ℤ = n *ℤ pos (lcm_of d e / d) +ℤ k *ℤ pos (lcm_of d e / e) in
    let t : s ≡ z = is ∙ ap (λ (x : ℕ). n *ℤ pos (x / d) +ℤ k *ℤ pos (x / e)) h in
    ap (λ (x : ℤ). reduced_den x m) t
    ∙ ap (λ (x : ℕ). reduced_den z x) h
    ∙ sym (reduced_den_scaled z (lcm_of d e) (gcd_of d e) (gcd_positive d e q))
    ∙ ap (λ (x : ℤ). reduced_den x (lcm_of d e * gcd_of d e)) (sym (cross_sum n k d e p q))
    ∙ ap (λ (x : ℕ). reduced_den (n *ℤ pos e +ℤ k *ℤ pos d) x) (lcm_times_gcd d e p q)

-- a product of a size has the sign of the size
pub signed_product : (negative : Bool) (n : ℤ) (size q x : ℕ) → signed negative size ≡ n → x ≡ size * q → signed negative x ≡ n *ℤ pos q
signed_product negative n size q x h e =
    ap (λ (y : ℕ). signed negative y) e ∙ signed_times negative size q ∙ ap (λ (z : ℤ). z *ℤ pos q) h
