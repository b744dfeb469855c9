-- The quotient of two fractions over one whole.
use Rattle.std.proofs.Common.{◌≡◌, ℕ, ◌*◌, ◌<◌, ◌≤◌, ℤ, pos, ◌*ℤ◌, ◌<ℤ◌, unsigned_abs, sym, ◌∙◌, ap, subst, arith}
use Rattle.std.proofs.lemmas.Int.{ints}
use Rattle.kf_frac.specs.declared.frac.Frac.{Frac}
use Rattle.kf_frac.specs.Fractions.{limit, reduced_num, reduced_den}
use Rattle.kf_frac.specs.Parts.{PartsFit}
use Rattle.kf_frac.specs.Views.{num_of, den_of}
use Rattle.kf_frac.proofs.CommonMultiples.{product_positive}
use Rattle.kf_frac.proofs.Ring.{ring, mul_assoc}
use Rattle.kf_frac.proofs.Scaling.{same_num, same_den, reduced_fit}
use Rattle.kf_frac.specs.Parts.{IsFraction}
use Rattle.kf_report.proofs.Crossing.{IsOver, abs_is, positive}

first_step : (q b y : ℤ) → q *ℤ b *ℤ y ≡ q *ℤ (y *ℤ b)
first_step q b y = simp ring

middle_step : (q p n : ℤ) → q *ℤ (p *ℤ n) ≡ q *ℤ n *ℤ p
middle_step q p n = simp ring

-- (q / a) / (p / b), where these are z / n and y / n, is z / y
divided : (y z p q a b n : ℤ) → p *ℤ n ≡ y *ℤ b → q *ℤ n ≡ z *ℤ a → q *ℤ b *ℤ y ≡ z *ℤ (a *ℤ p)
divided y z p q a b n first second =
    first_step q b y ∙ ap (λ (w : ℤ). q *ℤ w) (sym first) ∙ middle_step q p n ∙ ap (λ (w : ℤ). w *ℤ p) second ∙ mul_assoc z a p

module _ (prior posterior inverse : Frac) (y z : ℤ) (n : ℕ) (some : 0 < n) (up : pos 0 <ℤ y) (first : IsOver prior y n) (second : IsOver posterior z n)
    (num_is : num_of inverse ≡ pos (den_of prior)) (den_is : den_of inverse ≡ unsigned_abs (num_of prior)) where
  prior_up : pos 0 <ℤ num_of prior
  prior_up = positive y (num_of prior) (den_of prior) n prior.positive some (sym first.cross) up

  size : 0 < unsigned_abs y
  size = omega (arith, ints)

  crossed : num_of posterior *ℤ num_of inverse *ℤ pos (unsigned_abs y) ≡ z *ℤ pos (den_of posterior * den_of inverse)
  crossed =
      ap (λ (w : ℤ). num_of posterior *ℤ w *ℤ pos (unsigned_abs y)) num_is
      ∙ ap (λ (w : ℤ). num_of posterior *ℤ pos (den_of prior) *ℤ w) (abs_is y up)
      ∙ divided y z (num_of prior) (num_of posterior) (pos (den_of posterior)) (pos (den_of prior)) (pos n) first.cross second.cross
      ∙ ap (λ (w : ℤ). z *ℤ (pos (den_of posterior) *ℤ w)) (sym (abs_is (num_of prior) prior_up))
      ∙ ap (λ (k : ℕ). z *ℤ pos (den_of posterior * k)) (sym den_is)

  whole : 0 < den_of posterior * den_of inverse
  whole = product_positive (den_of posterior) (den_of inverse) posterior.positive inverse.positive

  abbrev above : ℤ
  above = num_of posterior *ℤ num_of inverse

  abbrev under : ℕ
  under = den_of posterior * den_of inverse

  same_above : reduced_num above under ≡ reduced_num z (unsigned_abs y)
  same_above = same_num above z under (unsigned_abs y) whole size crossed

  same_under : reduced_den above under ≡ reduced_den z (unsigned_abs y)
  same_under = same_den above z under (unsigned_abs y) whole size crossed

  pub ratio_fits : unsigned_abs y ≤ limit → unsigned_abs z ≤ limit → PartsFit (reduced_num above under) (reduced_den above under)
  ratio_fits low high =
      let fit : PartsFit z (unsigned_abs y) = record { num = high; den = low } in
      let small = reduced_fit z (unsigned_abs y) fit in
      record { num = subst (λ (w : ℤ). unsigned_abs w ≤ limit) (sym same_above) small.num; den = subst (λ (d : ℕ). d ≤ limit) (sym same_under) small.den }

  pub ratio_is : (s : Frac) → num_of s ≡ reduced_num above under → den_of s ≡ reduced_den above under → IsFraction s z (unsigned_abs y)
  ratio_is s num den = record { num = num ∙ same_above; den = den ∙ same_under }
