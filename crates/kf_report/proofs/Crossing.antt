-- Fractions over one whole, by cross products.
use Rattle.std.proofs.Common.{◌≡◌, ℕ, ◌*◌, ◌<◌, ℤ, pos, ◌*ℤ◌, ◌<ℤ◌, ◌≤ℤ◌, neg_ℤ, unsigned_abs, suc, zero, sym, ◌∙◌, ap, subst, arith}
use Rattle.std.proofs.Math.IntN.{negsuc}
use Rattle.std.proofs.Math.Nat.{dvd-mul_right}
use Rattle.std.proofs.lemmas.Int.{ints}
use Rattle.std.specs.Int.{◌∣◌}
use Rattle.kf_frac.specs.declared.frac.Frac.{Frac}
use Rattle.kf_frac.specs.Divisors.{gcd_of}
use Rattle.kf_frac.specs.Fractions.{reduced_num, reduced_den}
use Rattle.kf_frac.specs.Views.{num_of, den_of}
use Rattle.kf_frac.proofs.CommonMultiples.{product_positive}
use Rattle.kf_frac.proofs.LowestTerms.{reduced_num_times, reduced_den_times}
use Rattle.kf_frac.proofs.Ring.{ring, neg_mul}
use Rattle.kf_frac.specs.Parts.{IsFraction}

-- the fraction is z / n, and its denominator divides n
pub record IsOver (f : Frac) (z : ℤ) (n : ℕ) : Type 0 where
  pub cross : num_of f *ℤ pos n ≡ z *ℤ pos (den_of f)
  pub divides : den_of f ∣ n

turned : (k a b : ℤ) → k *ℤ (a *ℤ b) ≡ k *ℤ b *ℤ a
turned k a b = simp ring

crossed : (z : ℤ) (n : ℕ) → reduced_num z n *ℤ pos n ≡ z *ℤ pos (reduced_den z n)
crossed z n =
    let g : ℕ = gcd_of (unsigned_abs z) n in
    let d : ℕ = reduced_den z n in
    ap (λ (m : ℕ). reduced_num z n *ℤ pos m) (sym (reduced_den_times z n))
    ∙ turned (reduced_num z n) (pos d) (pos g)
    ∙ ap (λ (w : ℤ). w *ℤ pos d) (reduced_num_times z n)

pub is_over : (f : Frac) (z : ℤ) (n : ℕ) → IsFraction f z n → IsOver f z n
is_over f z n is = record {
  cross = ap (λ (w : ℤ). w *ℤ pos n) is.num ∙ crossed z n ∙ ap (λ (d : ℕ). z *ℤ pos d) (sym is.den);
  divides =
      subst (λ (d : ℕ). d ∣ n) (sym is.den)
      (subst (λ (m : ℕ). reduced_den z n ∣ m) (reduced_den_times z n) (dvd-mul_right (reduced_den z n) (gcd_of (unsigned_abs z) n)));
}

-- minus a fraction is over the same whole
pub minus_over : (f g : Frac) (z : ℤ) (n : ℕ) → num_of g ≡ neg_ℤ (num_of f) → den_of g ≡ den_of f → IsOver f z n → IsOver g (neg_ℤ z) n
minus_over f g z n num den over = record {
  cross =
      ap (λ (w : ℤ). w *ℤ pos n) num ∙ neg_mul (num_of f) (pos n) ∙ ap neg_ℤ over.cross ∙ sym (neg_mul z (pos (den_of f)))
      ∙ ap (λ (d : ℕ). neg_ℤ z *ℤ pos d) (sym den);
  divides = subst (λ (d : ℕ). d ∣ n) (sym den) over.divides;
}

none_positive : (p n b : ℕ) → 0 < n → pos 0 <ℤ pos p → pos p *ℤ pos n ≡ pos 0 *ℤ pos b → ⊥
none_positive p n b some up e =
    let above : 0 < p = omega (arith, ints) in
    let product = product_positive p n above some in
    let sizes : p * n ≡ 0 * b = ap unsigned_abs e in
    omega arith

not_minus : (p y b n : ℕ) → 0 < b → pos p *ℤ pos n ≡ negsuc y *ℤ pos b → ⊥
not_minus p y b n some e =
    let minus = e ∙ neg_mul (pos (suc y)) (pos b) in
    let product = product_positive (suc y) b (omega arith) some in
    omega (arith, ints)

-- a fraction has the sign of its number
pub positive : (p y : ℤ) (n b : ℕ) → 0 < n → 0 < b → p *ℤ pos n ≡ y *ℤ pos b → pos 0 <ℤ p → pos 0 <ℤ y
positive (pos p) (pos zero) n b some over e up = absurd (none_positive p n b some up e)
positive (pos p) (pos (suc y)) n b some over e up = omega (arith, ints)
positive (pos p) (negsuc y) n b some over e up = absurd (not_minus p y b n over e)
positive (negsuc p) y n b some over e up = absurd (omega (arith, ints))

pub not_positive : (y : ℤ) → (pos 0 <ℤ y → ⊥) → y ≤ℤ pos 0
not_positive (pos zero) not = omega (arith, ints)
not_positive (pos (suc y)) not = absurd (not (omega (arith, ints)))
not_positive (negsuc y) not = omega (arith, ints)

pub abs_is : (y : ℤ) → pos 0 <ℤ y → pos (unsigned_abs y) ≡ y
abs_is y up = omega (arith, ints)
