-- What is reached of a fraction in lowest terms is reached of it as it was written.
use Rattle.std.proofs.Common.{◌≡◌, ℕ, ◌*◌, ◌/◌, ◌<◌, ◌≤◌, ℤ, pos, ◌*ℤ◌, ◌≤ℤ◌, ◌<ℤ◌, unsigned_abs, List, false, ◌∙◌, ap, subst, arith}
use Rattle.std.proofs.Math.Nat.{div-mul_cancel, le_of_mul-le-mul_right}
use Rattle.std.proofs.lemmas.Int.{ints}
use Rattle.kf_frac.specs.Divisors.{gcd_of}
use Rattle.kf_frac.specs.Fractions.{reduced_num, reduced_den}
use Rattle.kf_frac.proofs.CommonDivisors.{gcd_is, gcd_positive, gcd_swap}
use Rattle.kf_frac.proofs.LowestTerms.{quotient_positive, reduced_num_signed, reduced_den_signed}
use Rattle.kf_frac.proofs.Ring.{mul_left_comm}
use Rattle.kf_simplex.proofs.Signs.{product_monotone, product_strict}
use Rattle.kf_column.specs.Hypers.{Inner}
use Rattle.kf_attack.specs.Attacks.{ReachTree, IsReach}
use Rattle.kf_text.specs.AttackTexts.{reach_text}
use Rattle.kf_top.specs.Answer.{PrintsSome, prints}

-- ---- a factor of both numbers changes nothing

module _ (scale n d k : ℕ) where
  left : pos k *ℤ pos (n * scale) ≡ pos (n * k * scale)
  left = ap pos (grind arith)

  right : (z : ℤ) → pos k *ℤ (z *ℤ pos d) ≡ z *ℤ pos (d * k)
  right z = mul_left_comm (pos k) z (pos d) ∙ ap (λ (m : ℕ). z *ℤ pos m) (grind arith)

  module _ (inners : List Inner) (r : ReachTree) (positive : 0 < k) where
    above : pos 0 <ℤ pos k
    above = omega (arith, ints)

    enlarged : IsReach scale inners n d r → IsReach scale inners (n * k) (d * k) r
    enlarged is = record {
      some = is.some;
      posterior = is.posterior;
      before = is.before;
      enough =
          subst (λ (z : ℤ). z ≤ℤ (r.posterior *ℤ pos (d * k))) left (subst (λ (z : ℤ). (pos k *ℤ pos (n * scale)) ≤ℤ z) (right r.posterior)
          (product_monotone (pos (n * scale)) (r.posterior *ℤ pos d) (pos k) (omega (arith, ints)) is.enough));
      short =
          subst (λ (z : ℤ). (r.before *ℤ pos (d * k)) <ℤ z) left (subst (λ (z : ℤ). z <ℤ (pos k *ℤ pos (n * scale))) (right r.before)
          (product_strict (r.before *ℤ pos d) (pos (n * scale)) (pos k) above is.short));
    }

-- ---- a fraction above 0 and at most 1, in lowest terms

module _ (num den : ℕ) (some : 1 ≤ num) (part : num ≤ den) (z : ℤ) (d : ℕ) (num_is : z ≡ reduced_num (pos num) den) (den_is : d ≡ reduced_den (pos num) den) where
  abbrev divisor : ℕ
  divisor = gcd_of num den

  its_num : z ≡ pos (num / divisor)
  its_num = num_is ∙ reduced_num_signed false num den

  its_den : d ≡ den / divisor
  its_den = den_is ∙ reduced_den_signed false num den

  num_times : num / divisor * divisor ≡ num
  num_times = div-mul_cancel divisor (gcd_is num den).0

  den_times : den / divisor * divisor ≡ den
  den_times = div-mul_cancel divisor (gcd_is num den).1

  divisor_some : 0 < divisor
  divisor_some = gcd_positive num den (omega (arith, some, part))

  pub wanted_some : pos 0 <ℤ z
  wanted_some = rw its_num (omega (arith, ints, quotient_positive den num divisor (gcd_swap num den) some))

  pub wanted_part : z ≤ℤ pos d
  wanted_part =
      let times : num / divisor * divisor ≤ den / divisor * divisor = omega (arith, num_times, den_times, part) in
      rw (its_num, its_den) (omega (arith, ints, le_of_mul-le-mul_right times divisor_some))

  as_written : (scale : ℕ) (inners : List Inner) (r : ReachTree) → IsReach scale inners (unsigned_abs z) d r → IsReach scale inners num den r
  as_written scale inners r is =
      let lowest : IsReach scale inners (num / divisor) (den / divisor) r =
      subst (λ (n : ℕ). IsReach scale inners n (den / divisor) r) (ap unsigned_abs its_num) (subst (λ (n : ℕ). IsReach scale inners (unsigned_abs z) n r) its_den is) in
      subst (λ (n : ℕ). IsReach scale inners n den r) num_times
      (subst (λ (n : ℕ). IsReach scale inners (num / divisor * divisor) n r) den_times (enlarged scale (num / divisor) (den / divisor) divisor inners r divisor_some lowest))

  pub reach_prints : (scale : ℕ) (inners : List Inner) (r : ReachTree) (bytes : List ℕ) → IsReach scale inners (unsigned_abs z) d r → bytes ≡ reach_text scale r
      → PrintsSome (IsReach scale inners num den) (reach_text scale) (prints bytes)
  reach_prints scale inners r bytes is text = (r, as_written scale inners r is, ap prints text)
