-- The product of two fractions, cancelled crosswise.
use Rattle.std.proofs.Common.{◌≡◌, ◌↔◌, ℕ, ◌*◌, ◌/◌, ◌<◌, ◌≤◌, Bool, true, false, not, ℤ, pos, ◌*ℤ◌, neg_ℤ, unsigned_abs, refl, sym, ◌∙◌, ap, subst, arith}
use Rattle.std.proofs.Math.Bool.{beq}
use Rattle.std.proofs.Math.IntN.{neg_ℤ-neg_ℤ}
use Rattle.std.proofs.Math.Nat.{mul-div_cancel', div-mul_cancel, div-one, mul_comm, dvd-mul_right}
use Rattle.std.specs.Int.{◌∣◌}
use Rattle.kf_frac.specs.declared.frac.Frac.{Frac}
use Rattle.kf_frac.specs.Divisors.{gcd_of}
use Rattle.kf_frac.specs.Fractions.{reduced_num, reduced_den, limit}
use Rattle.kf_frac.specs.Parts.{signed, PartsFit}
use Rattle.kf_frac.proofs.CommonDivisors.{gcd_is, gcd_positive, gcd_quotients, gcd_swap, coprime_part, coprime_product}
use Rattle.kf_frac.proofs.CommonMultiples.{product_positive}
use Rattle.kf_frac.proofs.LowestTerms.{reduced_num_signed, reduced_den_signed, unsigned_of_signed, reduced_num_same, reduced_den_same, reduced_coprime}
use Rattle.kf_frac.proofs.Ring.{neg_mul, mul_neg}
use Rattle.kf_frac.proofs.Scaling.{scaled_quotients}

-- the quotient of a number by its divisor divides it
quotient_divides : (g n : ℕ) → g ∣ n → n / g ∣ n
quotient_divides g n h = subst (λ (x : ℕ). n / g ∣ x) (div-mul_cancel g h) (dvd-mul_right (n / g) g)

-- parts of two numbers without common factor have none
apart : (n d a b : ℕ) → gcd_of n d ≡ 1 → a ∣ n → b ∣ d → gcd_of a b ≡ 1
apart n d a b h p q =
    gcd_swap a b ∙ coprime_part b n a (gcd_swap b n ∙ coprime_part n d b h q) p

both_sides : (a b c : ℕ) → gcd_of a b ≡ 1 → gcd_of a c ≡ 1 → gcd_of a (b * c) ≡ 1
both_sides a b c h i = gcd_swap a (b * c) ∙ coprime_product b c a (gcd_swap b a ∙ h) (gcd_swap c a ∙ i)

crosswise_coprime : (n k d e : ℕ) → gcd_of n d ≡ 1 → gcd_of k e ≡ 1 → 0 < d → 0 < e
    → gcd_of (n / gcd_of n e * (k / gcd_of k d)) (d / gcd_of k d * (e / gcd_of n e)) ≡ 1
crosswise_coprime n k d e h i p q =
    let l : ℕ = gcd_of n e in
    let r : ℕ = gcd_of k d in
    let nl : n / l ∣ n = quotient_divides l n (gcd_is n e).0 in
    let el : e / l ∣ e = quotient_divides l e (gcd_is n e).1 in
    let kr : k / r ∣ k = quotient_divides r k (gcd_is k d).0 in
    let dr : d / r ∣ d = quotient_divides r d (gcd_is k d).1 in
    coprime_product (n / l) (k / r) (d / r * (e / l))
    (both_sides (n / l) (d / r) (e / l) (apart n d (n / l) (d / r) h nl dr) (gcd_quotients n e q))
    (both_sides (k / r) (d / r) (e / l) (gcd_quotients k d p) (apart k e (k / r) (e / l) i kr el))

regroup : (l a r b n k : ℕ) → l * a ≡ n → r * b ≡ k → a * b * (l * r) ≡ n * k
regroup l a r b n k h i = omega (arith, ap (λ (x : ℕ). x * (r * b)) h, ap (λ (x : ℕ). n * x) i)

-- the parts that are left are those of the product in lowest terms
crosswise_quotients : (n k d e : ℕ) → gcd_of n d ≡ 1 → gcd_of k e ≡ 1 → 0 < d → 0 < e
    → (n * k / gcd_of (n * k) (d * e) ≡ n / gcd_of n e * (k / gcd_of k d)) × (d * e / gcd_of (n * k) (d * e) ≡ d / gcd_of k d * (e / gcd_of n e))
crosswise_quotients n k d e h i p q =
    let l : ℕ = gcd_of n e in
    let r : ℕ = gcd_of k d in
    let num : ℕ = n / l * (k / r) in
    let den : ℕ = d / r * (e / l) in
    let en : l * (n / l) ≡ n = mul-div_cancel' l (gcd_is n e).0 in
    let ee : l * (e / l) ≡ e = mul-div_cancel' l (gcd_is n e).1 in
    let ek : r * (k / r) ≡ k = mul-div_cancel' r (gcd_is k d).0 in
    let ed : r * (d / r) ≡ d = mul-div_cancel' r (gcd_is k d).1 in
    let above : num * (l * r) ≡ n * k = regroup l (n / l) r (k / r) n k en ek in
    let below : den * (l * r) ≡ d * e = ap (λ (x : ℕ). den * x) (mul_comm l r) ∙ regroup r (d / r) l (e / l) d e ed ee in
    let none : gcd_of num den ≡ 1 = crosswise_coprime n k d e h i p q in
    let s = scaled_quotients num den (l * r) (product_positive l r (gcd_positive n e q) (gcd_positive k d p)) in
    let same : gcd_of (n * k) (d * e) ≡ gcd_of (num * (l * r)) (den * (l * r)) =
    ap (λ (x : ℕ). gcd_of x (d * e)) (sym above) ∙ ap (λ (x : ℕ). gcd_of (num * (l * r)) x) (sym below) in (
      ap (λ (x : ℕ). n * k / x) same ∙ ap (λ (x : ℕ). x / gcd_of (num * (l * r)) (den * (l * r))) (sym above) ∙ s.0 ∙ ap (λ (x : ℕ). num / x) none ∙ div-one num,
      ap (λ (x : ℕ). d * e / x) same ∙ ap (λ (x : ℕ). x / gcd_of (num * (l * r)) (den * (l * r))) (sym below) ∙ s.1 ∙ ap (λ (x : ℕ). den / x) none ∙ div-one den,
    )

-- the sign of a product
signed_mul : (x y : Bool) (m n : ℕ) → signed x m *ℤ signed y n ≡ signed (not (beq x y)) (m * n)
signed_mul false false m n = refl
signed_mul true false m n = neg_mul (pos m) (pos n)
signed_mul false true m n = mul_neg (pos m) (pos n)
signed_mul true true m n =
    neg_mul (pos m) (neg_ℤ (pos n)) ∙ ap (λ (z : ℤ). neg_ℤ z) (mul_neg (pos m) (pos n)) ∙ neg_ℤ-neg_ℤ (pos (m * n))

-- the size that a number with a sign has
size_of : (x : Bool) (m : ℕ) (z : ℤ) → signed x m ≡ z → unsigned_abs z ≡ m
size_of x m z h = ap (λ (w : ℤ). unsigned_abs w) (sym h) ∙ unsigned_of_signed x m

-- the product of two fractions in lowest terms has what is left as its own lowest terms
pub product_num : (a b : Frac) (x y : Bool) (m n l r size : ℕ) → signed x m ≡ a.num → signed y n ≡ b.num
    → l ≡ gcd_of m b.den → r ≡ gcd_of n a.den → size ≡ m / l * (n / r)
    → reduced_num (a.num *ℤ b.num) (a.den * b.den) ≡ signed (not (beq x y)) size
product_num a b x y m n l r size ea eb el er es =
    let i : gcd_of m a.den ≡ 1 = ap (λ (k : ℕ). gcd_of k a.den) (sym (size_of x m a.num ea)) ∙ a.reduced in
    let j : gcd_of n b.den ≡ 1 = ap (λ (k : ℕ). gcd_of k b.den) (sym (size_of y n b.num eb)) ∙ b.reduced in
    ap (λ (z : ℤ). reduced_num (z *ℤ b.num) (a.den * b.den)) (sym ea)
    ∙ ap (λ (z : ℤ). reduced_num (signed x m *ℤ z) (a.den * b.den)) (sym eb)
    ∙ ap (λ (z : ℤ). reduced_num z (a.den * b.den)) (signed_mul x y m n)
    ∙ reduced_num_signed (not (beq x y)) (m * n) (a.den * b.den)
    ∙ ap (λ (k : ℕ). signed (not (beq x y)) k)
    ((crosswise_quotients m n a.den b.den i j a.positive b.positive).0
    ∙ ap (λ (k : ℕ). m / k * (n / gcd_of n a.den)) (sym el) ∙ ap (λ (k : ℕ). m / l * (n / k)) (sym er) ∙ sym es)

pub product_den : (a b : Frac) (x y : Bool) (m n l r den : ℕ) → signed x m ≡ a.num → signed y n ≡ b.num
    → l ≡ gcd_of m b.den → r ≡ gcd_of n a.den → den ≡ a.den / r * (b.den / l)
    → reduced_den (a.num *ℤ b.num) (a.den * b.den) ≡ den
product_den a b x y m n l r den ea eb el er es =
    let i : gcd_of m a.den ≡ 1 = ap (λ (k : ℕ). gcd_of k a.den) (sym (size_of x m a.num ea)) ∙ a.reduced in
    let j : gcd_of n b.den ≡ 1 = ap (λ (k : ℕ). gcd_of k b.den) (sym (size_of y n b.num eb)) ∙ b.reduced in
    ap (λ (z : ℤ). reduced_den (z *ℤ b.num) (a.den * b.den)) (sym ea)
    ∙ ap (λ (z : ℤ). reduced_den (signed x m *ℤ z) (a.den * b.den)) (sym eb)
    ∙ ap (λ (z : ℤ). reduced_den z (a.den * b.den)) (signed_mul x y m n)
    ∙ reduced_den_signed (not (beq x y)) (m * n) (a.den * b.den)
    ∙ (crosswise_quotients m n a.den b.den i j a.positive b.positive).1
    ∙ ap (λ (k : ℕ). a.den / k * (b.den / gcd_of m b.den)) (sym er) ∙ ap (λ (k : ℕ). a.den / r * (b.den / k)) (sym el) ∙ sym es

-- lowest terms are their own
pub reduced_twice_num : (n : ℤ) (d : ℕ) → 0 < d → reduced_num (reduced_num n d) (reduced_den n d) ≡ reduced_num n d
reduced_twice_num n d p = reduced_num_same (reduced_num n d) (reduced_den n d) (reduced_coprime n d p)

pub reduced_twice_den : (n : ℤ) (d : ℕ) → 0 < d → reduced_den (reduced_num n d) (reduced_den n d) ≡ reduced_den n d
reduced_twice_den n d p = reduced_den_same (reduced_num n d) (reduced_den n d) (reduced_coprime n d p)

-- a number too great for the limit is no part within it
pub num_passes : (z : ℤ) (x : Bool) (size d : ℕ) → z ≡ signed x size → limit < size → PartsFit z d → ⊥
num_passes z x size d e p h =
    let k : size ≤ limit = subst (λ (w : ℕ). w ≤ limit) (size_of x size z (sym e)) h.num in omega arith

pub den_passes : (z : ℤ) (d e : ℕ) → d ≡ e → limit < e → PartsFit z d → ⊥
den_passes z d e h p fit = let k : d ≤ limit = fit.den in omega arith

-- the lowest terms of what is left are those of the product
pub left_num : (n s : ℤ) (d e : ℕ) → 0 < d → reduced_num n d ≡ s → reduced_den n d ≡ e → reduced_num s e ≡ reduced_num n d
left_num n s d e p h i =
    ap (λ (z : ℤ). reduced_num z e) (sym h) ∙ ap (λ (x : ℕ). reduced_num (reduced_num n d) x) (sym i) ∙ reduced_twice_num n d p

pub left_den : (n s : ℤ) (d e : ℕ) → 0 < d → reduced_num n d ≡ s → reduced_den n d ≡ e → reduced_den s e ≡ reduced_den n d
left_den n s d e p h i =
    ap (λ (z : ℤ). reduced_den z e) (sym h) ∙ ap (λ (x : ℕ). reduced_den (reduced_num n d) x) (sym i) ∙ reduced_twice_den n d p

pub left_fits : (n s : ℤ) (d e : ℕ) → 0 < d → reduced_num n d ≡ s → reduced_den n d ≡ e
    → PartsFit (reduced_num s e) (reduced_den s e) ↔ PartsFit (reduced_num n d) (reduced_den n d)
left_fits n s d e p h i =
    let x : reduced_num s e ≡ reduced_num n d = left_num n s d e p h i in
    let y : reduced_den s e ≡ reduced_den n d = left_den n s d e p h i in (
      λ f. record { num = subst (λ (z : ℤ). unsigned_abs z ≤ limit) x f.num; den = subst (λ (z : ℕ). z ≤ limit) y f.den },
      λ f. record { num = subst (λ (z : ℤ). unsigned_abs z ≤ limit) (sym x) f.num; den = subst (λ (z : ℕ). z ≤ limit) (sym y) f.den },
    )
