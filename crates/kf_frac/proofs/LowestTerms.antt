-- Fractions in lowest terms.
use Rattle.std.proofs.Common.{◌≡◌, ℕ, zero, suc, ◌*◌, ◌/◌, ◌<◌, ◌≤◌, Bool, true, false, ℤ, pos, negsuc, ◌*ℤ◌, neg_ℤ, unsigned_abs, int_div, List, [], ◌++◌, ◌≢◌, ◌==◌, codes, refl, sym, ◌∙◌, ap, subst, arith}
use Rattle.std.proofs.Math.Nat.{div-mul_cancel, zero-div}
use Rattle.std.proofs.lemmas.Int.{ints}
use Rattle.std.proofs.lemmas.Bool.{cond-true, cond-false, eq-eqb, ne_eqb}
use Rattle.std.proofs.lemmas.List.{append-nil}
use Rattle.std.specs.Fmt.{decimal, signed_decimal}
use Rattle.kf_frac.specs.Divisors.{gcd_of}
use Rattle.kf_frac.specs.Fractions.{reduced_num, reduced_den, limit, fraction_text}
use Rattle.kf_frac.specs.Parts.{signed, PartsFit, denominator_text}
use Rattle.kf_frac.proofs.CommonDivisors.{gcd_is, gcd_quotients}

-- ---- signs

pub unsigned_of_signed : (negative : Bool) (m : ℕ) → unsigned_abs (signed negative m) ≡ m
unsigned_of_signed false m = refl
unsigned_of_signed true zero = refl
unsigned_of_signed true (suc m) = refl

-- every whole number is its sign and its absolute value
pub signed_parts : (n : ℤ) → (negative : Bool) × (signed negative (unsigned_abs n) ≡ n)
signed_parts (pos n) = (false, refl)
signed_parts (negsuc n) = (true, refl)

-- ---- the parts in lowest terms

positive_factor : (q g d : ℕ) → q * g ≡ d → 0 < d → 0 < q
positive_factor zero g d e p = omega arith
positive_factor (suc q) g d e p = omega arith

quotient_signed : (negative : Bool) (m g : ℕ) → int_div (signed negative m) (pos g) ≡ signed negative (m / g)
quotient_signed false m g = refl
quotient_signed true zero g = rw (zero-div g) refl
quotient_signed true (suc m) g = refl

pub reduced_num_signed : (negative : Bool) (m d : ℕ) → reduced_num (signed negative m) d ≡ signed negative (m / gcd_of m d)
unfolding reduced_num
reduced_num_signed negative m d =
    quotient_signed negative m (gcd_of (unsigned_abs (signed negative m)) d)
    ∙ ap (λ (k : ℕ). signed negative (m / gcd_of k d)) (unsigned_of_signed negative m)

pub reduced_den_signed : (negative : Bool) (m d : ℕ) → reduced_den (signed negative m) d ≡ d / gcd_of m d
unfolding reduced_den
reduced_den_signed negative m d = ap (λ (k : ℕ). d / gcd_of k d) (unsigned_of_signed negative m)

-- the parts fit where the quotients do
pub parts_fit : (negative : Bool) (m d g : ℕ) → g ≡ gcd_of m d → m / g ≤ limit → d / g ≤ limit
    → PartsFit (reduced_num (signed negative m) d) (reduced_den (signed negative m) d)
parts_fit negative m d g e p q =
    rw (reduced_num_signed negative m d, reduced_den_signed negative m d, sym e)
    (record { num = rw (unsigned_of_signed negative (m / g)) p; den = q })

pub quotients_fit : (negative : Bool) (m d g : ℕ) → g ≡ gcd_of m d
    → PartsFit (reduced_num (signed negative m) d) (reduced_den (signed negative m) d) → (m / g ≤ limit) × (d / g ≤ limit)
quotients_fit negative m d g e h =
    let k = rw (reduced_num_signed negative m d, reduced_den_signed negative m d, sym e) at h in
    (rw (unsigned_of_signed negative (m / g)) at k.num, k.den)

pub quotient_positive : (m d g : ℕ) → g ≡ gcd_of m d → 0 < d → 0 < d / g
quotient_positive m d g e p =
    positive_factor (d / g) g d (rw e (div-mul_cancel (gcd_of m d) (gcd_is m d).1)) p

pub signed_fits : (negative : Bool) (z : ℤ) (m : ℕ) → z ≡ signed negative m → m ≤ limit → unsigned_abs z ≤ limit
signed_fits negative z m e h = rw (e, unsigned_of_signed negative m) h

pub signed_coprime : (negative : Bool) (z : ℤ) (m d g : ℕ) → z ≡ signed negative (m / g) → g ≡ gcd_of m d → 0 < d
    → gcd_of (unsigned_abs z) (d / g) ≡ 1
signed_coprime negative z m d g e h p = rw (e, unsigned_of_signed negative (m / g), h) (gcd_quotients m d p)

pub reduced_num_abs : (n : ℤ) (d : ℕ) → unsigned_abs (reduced_num n d) ≡ unsigned_abs n / gcd_of (unsigned_abs n) d
unfolding reduced_num
reduced_num_abs (pos n) d = refl
reduced_num_abs (negsuc n) d = unsigned_of_signed true (suc n / gcd_of (suc n) d)

pub reduced_den_is : (n : ℤ) (d : ℕ) → reduced_den n d ≡ d / gcd_of (unsigned_abs n) d
unfolding reduced_den
reduced_den_is n d = refl

minus_times : (q g n : ℕ) → q * g ≡ suc n → neg_ℤ (pos q) *ℤ pos g ≡ negsuc n
minus_times zero g n h = absurd (omega arith)
minus_times (suc q) g n h = omega (arith, ints)

times_one : (z n : ℤ) (g : ℕ) → g ≡ 1 → z *ℤ pos g ≡ n → z ≡ n
times_one z n g h e = let k : z *ℤ pos 1 ≡ n = subst (λ (x : ℕ). z *ℤ pos x ≡ n) h e in omega (arith, ints)

-- the parts times the greatest common divisor are the parts given
pub reduced_num_times : (n : ℤ) (d : ℕ) → reduced_num n d *ℤ pos (gcd_of (unsigned_abs n) d) ≡ n
unfolding reduced_num
reduced_num_times (pos n) d = ap (λ (k : ℕ). pos k) (div-mul_cancel (gcd_of n d) (gcd_is n d).0)
reduced_num_times (negsuc n) d =
    minus_times (suc n / gcd_of (suc n) d) (gcd_of (suc n) d) n (div-mul_cancel (gcd_of (suc n) d) (gcd_is (suc n) d).0)

pub reduced_den_times : (n : ℤ) (d : ℕ) → reduced_den n d * gcd_of (unsigned_abs n) d ≡ d
reduced_den_times n d = rw (reduced_den_is n d) (div-mul_cancel (gcd_of (unsigned_abs n) d) (gcd_is (unsigned_abs n) d).1)

pub reduced_den_positive : (n : ℤ) (d : ℕ) → 0 < d → 0 < reduced_den n d
reduced_den_positive n d p = positive_factor (reduced_den n d) (gcd_of (unsigned_abs n) d) d (reduced_den_times n d) p

pub reduced_coprime : (n : ℤ) (d : ℕ) → 0 < d → gcd_of (unsigned_abs (reduced_num n d)) (reduced_den n d) ≡ 1
reduced_coprime n d p = rw (reduced_num_abs n d, reduced_den_is n d) (gcd_quotients (unsigned_abs n) d p)

-- a pair without common factor is its own reduced pair
pub reduced_num_same : (n : ℤ) (d : ℕ) → gcd_of (unsigned_abs n) d ≡ 1 → reduced_num n d ≡ n
reduced_num_same n d h = times_one (reduced_num n d) n (gcd_of (unsigned_abs n) d) h (reduced_num_times n d)

pub reduced_den_same : (n : ℤ) (d : ℕ) → gcd_of (unsigned_abs n) d ≡ 1 → reduced_den n d ≡ d
reduced_den_same n d h = let e : reduced_den n d * 1 ≡ d = subst (λ (x : ℕ). reduced_den n d * x ≡ d) h (reduced_den_times n d) in omega arith

-- the text of such a pair
pub text_of_reduced : (n : ℤ) (d : ℕ) → gcd_of (unsigned_abs n) d ≡ 1 → fraction_text n d ≡ signed_decimal n ++ denominator_text d
unfolding fraction_text
text_of_reduced n d h = rw (reduced_num_same n d h, reduced_den_same n d h) refl

-- what is written of a denominator of 1, and of another
pub text_of_whole : (n z : ℤ) (d : ℕ) → gcd_of (unsigned_abs n) d ≡ 1 → z ≡ n → d ≡ 1 → signed_decimal z ≡ fraction_text n d
text_of_whole n z d h e one =
    ap (λ (x : ℤ). signed_decimal x) e
    ∙ sym (append-nil (signed_decimal n))
    ∙ ap (λ (t : List ℕ). signed_decimal n ++ t) (sym (cond-true (d == 1) [] (codes "/" ++ decimal d) (eq-eqb d 1 one)))
    ∙ sym (text_of_reduced n d h)

pub text_of_quotient : (n z : ℤ) (d : ℕ) → gcd_of (unsigned_abs n) d ≡ 1 → z ≡ n → d ≢ 1
    → signed_decimal z ++ (codes "/" ++ decimal d) ≡ fraction_text n d
text_of_quotient n z d h e more =
    ap (λ (x : ℤ). signed_decimal x ++ (codes "/" ++ decimal d)) e
    ∙ ap (λ (t : List ℕ). signed_decimal n ++ t) (sym (cond-false (d == 1) [] (codes "/" ++ decimal d) (ne_eqb d 1 more)))
    ∙ sym (text_of_reduced n d h)
