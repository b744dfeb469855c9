-- Fractions that are made of parts in lowest terms.
use Rattle.std.proofs.Common.{◌≡◌, ℕ, ◌≤◌, ℤ, pos, ◌-ℤ◌, neg_ℤ, unsigned_abs, to_z, of_z, sym, ◌∙◌, ap, subst, arith}
use Rattle.std.specs.Int.{w128}
use Rattle.std.proofs.lemmas.Int.{ints}
use Rattle.kf_frac.specs.Divisors.{gcd_of}
use Rattle.kf_frac.specs.Fractions.{limit, reduced_num, reduced_den}
use Rattle.kf_frac.specs.Parts.{PartsFit}
use Rattle.kf_frac.proofs.CommonDivisors.{gcd_swap}
use Rattle.kf_frac.proofs.LowestTerms.{reduced_num_same, reduced_den_same}
use Rattle.kf_frac.proofs.Scaling.{reduced_fit}

-- parts k and d, as the code has them
module _ (n k : ℤ) (c d : ℕ) (num : n ≡ k) (den : c ≡ d) where
  pub lowest_fit : unsigned_abs k ≤ limit → d ≤ limit → PartsFit (reduced_num n c) (reduced_den n c)
  lowest_fit small narrow = reduced_fit n c (record { num = subst (λ (z : ℤ). unsigned_abs z ≤ limit) (sym num) small; den = subst (λ (m : ℕ). m ≤ limit) (sym den) narrow })

  pub lowest_num : gcd_of (unsigned_abs k) d ≡ 1 → reduced_num n c ≡ k
  lowest_num apart = ap (λ (z : ℤ). reduced_num z c) num ∙ ap (λ (m : ℕ). reduced_num k m) den ∙ reduced_num_same k d apart

  pub lowest_den : gcd_of (unsigned_abs k) d ≡ 1 → reduced_den n c ≡ d
  lowest_den apart = ap (λ (z : ℤ). reduced_den z c) num ∙ ap (λ (m : ℕ). reduced_den k m) den ∙ reduced_den_same k d apart

abs_minus : (k : ℤ) → unsigned_abs (neg_ℤ k) ≡ unsigned_abs k
abs_minus k = omega (arith, ints)

pub minus_fits : (k : ℤ) → unsigned_abs k ≤ limit → unsigned_abs (neg_ℤ k) ≤ limit
minus_fits k small = subst (λ (m : ℕ). m ≤ limit) (sym (abs_minus k)) small

pub minus_apart : (k : ℤ) (d : ℕ) → gcd_of (unsigned_abs k) d ≡ 1 → gcd_of (unsigned_abs (neg_ℤ k)) d ≡ 1
minus_apart k d apart = ap (λ (m : ℕ). gcd_of m d) (abs_minus k) ∙ apart

pub turned_apart : (k : ℤ) (d : ℕ) → gcd_of (unsigned_abs k) d ≡ 1 → gcd_of (unsigned_abs (pos d)) (unsigned_abs k) ≡ 1
turned_apart k d apart = gcd_swap d (unsigned_abs k) ∙ apart

-- how the code reads minus a number, and a size
pub minus_read : (x k : ℤ) → x ≡ k → unsigned_abs k ≤ limit → to_z w128 (of_z w128 (pos 0 -ℤ to_z w128 (of_z w128 x))) ≡ neg_ℤ k
minus_read x k same small = omega (arith, ints)

pub size_read : (x k : ℤ) (m : ℕ) → x ≡ k → unsigned_abs k ≤ limit → m ≡ unsigned_abs (to_z w128 (of_z w128 x)) → m ≡ unsigned_abs k
size_read x k m same small is = omega (arith, ints)

pub den_read : (x d : ℕ) → x ≡ d → d ≤ limit → to_z w128 x ≡ pos d
den_read x d same small = omega (arith, ints)
