-- The sum of two fractions over one whole.
use Rattle.std.proofs.Common.{◌≡◌, ℕ, ◌*◌, ◌/◌, ◌<◌, ◌≤◌, ℤ, pos, ◌+ℤ◌, ◌*ℤ◌, unsigned_abs, sym, ◌∙◌, ap, subst, arith}
use Rattle.std.proofs.Math.Nat.{mul_comm, mul-div_cancel', mul-le-mul_left, le_of_mul-le-mul_right}
use Rattle.std.proofs.lemmas.Int.{unsigned_abs-mul}
use Rattle.kf_frac.specs.declared.frac.Frac.{Frac}
use Rattle.kf_frac.specs.Arithmetic.{sum_num, sum_over}
use Rattle.kf_frac.specs.Divisors.{lcm_of}
use Rattle.kf_frac.specs.Fractions.{limit, reduced_num, reduced_den}
use Rattle.kf_frac.specs.Laws.{IsLcm}
use Rattle.kf_frac.specs.Parts.{PartsFit}
use Rattle.kf_frac.specs.Views.{num_of, den_of}
use Rattle.kf_frac.proofs.CommonMultiples.{lcm_is, product_positive}
use Rattle.kf_frac.proofs.Ring.{ring, add_mul, mul_assoc}
use Rattle.kf_frac.proofs.Scaling.{same_num, same_den}
use Rattle.kf_frac.specs.Parts.{IsFraction}
use Rattle.kf_report.proofs.Crossing.{IsOver}

swapped : (q u n : ℤ) → q *ℤ u *ℤ n ≡ q *ℤ n *ℤ u
swapped q u n = simp ring

brought : (q u n z a m : ℤ) → q *ℤ n ≡ z *ℤ a → a *ℤ u ≡ m → q *ℤ u *ℤ n ≡ z *ℤ m
brought q u n z a m cross same = swapped q u n ∙ ap (λ (w : ℤ). w *ℤ u) cross ∙ mul_assoc z a u ∙ ap (λ (w : ℤ). z *ℤ w) same

-- two numerators brought to one denominator m
joined : (p q u v n y z a b m : ℤ) → p *ℤ n ≡ y *ℤ a → q *ℤ n ≡ z *ℤ b → a *ℤ u ≡ m → b *ℤ v ≡ m → (p *ℤ u +ℤ q *ℤ v) *ℤ n ≡ (y +ℤ z) *ℤ m
joined p q u v n y z a b m first second left right =
    add_mul n (p *ℤ u) (q *ℤ v)
    ∙ ap (λ (w : ℤ). w +ℤ q *ℤ v *ℤ n) (brought p u n y a m first left)
    ∙ ap (λ (w : ℤ). y *ℤ m +ℤ w) (brought q v n z b m second right)
    ∙ sym (add_mul m y z)

below : (s d : ℤ) (n l : ℕ) → 0 < n → l ≤ n → s *ℤ pos n ≡ d *ℤ pos l → unsigned_abs s ≤ unsigned_abs d
below s d n l some less cross =
    let sizes : unsigned_abs s * n ≡ unsigned_abs d * l = sym (unsigned_abs-mul s (pos n)) ∙ ap unsigned_abs cross ∙ unsigned_abs-mul d (pos l) in
    le_of_mul-le-mul_right (subst (λ (k : ℕ). k ≤ unsigned_abs d * n) (sym sizes) (mul-le-mul_left (unsigned_abs d) less)) some

module _ (f g : Frac) (y z : ℤ) (n : ℕ) (some : 0 < n) (first : IsOver f y n) (second : IsOver g z n) where
  abbrev common : ℕ
  common = lcm_of (den_of f) (den_of g)

  common_is : IsLcm (den_of f) (den_of g) common
  common_is = lcm_is (den_of f) (den_of g) f.positive g.positive

  over_common : sum_over common f g *ℤ pos n ≡ (y +ℤ z) *ℤ pos common
  over_common =
      joined (num_of f) (num_of g) (pos (common / den_of f)) (pos (common / den_of g)) (pos n) y z (pos (den_of f)) (pos (den_of g)) (pos common) first.cross second.cross
      (ap (λ (k : ℕ). pos k) (mul-div_cancel' (den_of f) common_is.left)) (ap (λ (k : ℕ). pos k) (mul-div_cancel' (den_of g) common_is.right))

  pub sum_fits : n ≤ limit → unsigned_abs (y +ℤ z) ≤ limit → PartsFit (sum_over common f g) common
  sum_fits narrow near =
      let less : common ≤ n = common_is.least n some first.divides second.divides in
      record {
        num = let small = below (sum_over common f g) (y +ℤ z) n common some less over_common in omega arith;
        den = omega arith;
      }

  crossed : sum_num f g *ℤ pos n ≡ (y +ℤ z) *ℤ pos (den_of f * den_of g)
  crossed =
      joined (num_of f) (num_of g) (pos (den_of g)) (pos (den_of f)) (pos n) y z (pos (den_of f)) (pos (den_of g)) (pos (den_of f * den_of g)) first.cross second.cross
      (ap (λ (k : ℕ). pos k) (omega arith)) (ap (λ (k : ℕ). pos k) (mul_comm (den_of g) (den_of f)))

  pub sum_is : (s : Frac) → num_of s ≡ reduced_num (sum_num f g) (den_of f * den_of g) → den_of s ≡ reduced_den (sum_num f g) (den_of f * den_of g) → IsFraction s (y +ℤ z) n
  sum_is s num den =
      let whole : 0 < den_of f * den_of g = product_positive (den_of f) (den_of g) f.positive g.positive in
      record {
        num = num ∙ same_num (sum_num f g) (y +ℤ z) (den_of f * den_of g) n whole some crossed;
        den = den ∙ same_den (sum_num f g) (y +ℤ z) (den_of f * den_of g) n whole some crossed;
      }
