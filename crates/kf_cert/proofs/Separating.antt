-- Two posterior vulnerabilities compared by their fractions.
use Rattle.std.proofs.Common.{◌≡◌, ◌<◌, ◌*◌, ℕ, ℤ, pos, ◌*ℤ◌, sym, ap, ◌∙◌, subst, arith, unsigned_abs}
use Rattle.std.proofs.Math.Nat.{mul_comm}
use Rattle.std.proofs.lemmas.Int.{ints}
use lib.Signed.{◌<ℤ◌}
use Rattle.kf_frac.specs.declared.frac.Frac.{Frac}
use Rattle.kf_frac.specs.Divisors.{gcd_of}
use Rattle.kf_frac.specs.Fractions.{reduced_num, reduced_den}
use Rattle.kf_frac.specs.Views.{num_of, den_of}
use Rattle.kf_frac.proofs.CommonMultiples.{product_positive}
use Rattle.kf_frac.proofs.LowestTerms.{reduced_num_times, reduced_den_times}
use Rattle.kf_frac.proofs.Ring.{ring}
use Rattle.kf_gain.specs.Gains.{Table, TableTree}
use Rattle.kf_frac.specs.Parts.{IsFraction}
use Rattle.kf_gain.specs.Vulnerabilities.{IsPosterior}
use Rattle.kf_gain.proofs.Reports.{one_report}
use Rattle.kf_refine.specs.Refinements.{HyperTree, Separates}
use Rattle.kf_simplex.proofs.Signs.{product_strict, cancel_lt}

turned : (k a b : ℤ) → k *ℤ (a *ℤ b) ≡ k *ℤ b *ℤ a
turned k a b = simp ring

crossed : (z : ℤ) (n : ℕ) → reduced_num z n *ℤ pos n ≡ z *ℤ pos (reduced_den z n)
crossed z n =
    let g : ℕ = gcd_of (unsigned_abs z) n in
    let d : ℕ = reduced_den z n in
    ap (λ (m : ℕ). reduced_num z n *ℤ pos m) (sym (reduced_den_times z n))
    ∙ turned (reduced_num z n) (pos d) (pos g)
    ∙ ap (λ (w : ℤ). w *ℤ pos d) (reduced_num_times z n)

cross : (f : Frac) (z : ℤ) (n : ℕ) → IsFraction f z n → num_of f *ℤ pos n ≡ z *ℤ pos (den_of f)
cross f z n is = ap (λ (w : ℤ). w *ℤ pos n) is.num ∙ crossed z n ∙ ap (λ (d : ℕ). z *ℤ pos d) (sym is.den)

spread : (a b c d : ℤ) → (a *ℤ b) *ℤ (c *ℤ d) ≡ (c *ℤ a) *ℤ (d *ℤ b)
spread a b c d = simp ring

gathered : (a b c d : ℤ) → (a *ℤ b) *ℤ (c *ℤ d) ≡ (b *ℤ c) *ℤ (a *ℤ d)
gathered a b c d = simp ring

-- numbers over scales times one number compare as their fractions do
module _ (f g : Frac) (y z : ℤ) (s t over : ℕ) (is_y : IsFraction f y (s * over)) (is_z : IsFraction g z (t * over)) (some_s : 0 < s) (some_t : 0 < t) (some : 0 < over) where
  abbrev left : ℤ
  left = num_of f *ℤ pos (den_of g)

  abbrev right : ℤ
  right = num_of g *ℤ pos (den_of f)

  abbrev wide : ℤ
  wide = pos (s * over * t)

  abbrev dens : ℤ
  dens = pos (den_of f * den_of g)

  -- what is crossed, times what isn't
  lefts : wide *ℤ left ≡ dens *ℤ (y *ℤ pos t)
  lefts =
      let crossing : num_of f *ℤ pos (s * over) ≡ y *ℤ pos (den_of f) = cross f y (s * over) is_y in
      spread (pos (s * over)) (pos t) (num_of f) (pos (den_of g)) ∙ ap (λ (w : ℤ). w *ℤ (pos (den_of g) *ℤ pos t)) crossing ∙ gathered y (pos (den_of f)) (pos (den_of g)) (pos t)

  rights : wide *ℤ right ≡ dens *ℤ (z *ℤ pos s)
  rights =
      let crossing : num_of g *ℤ pos (t * over) ≡ z *ℤ pos (den_of g) = cross g z (t * over) is_z in
      let turn : s * over * t ≡ t * over * s = omega arith in
      ap (λ (n : ℕ). pos n *ℤ right) turn
      ∙ spread (pos (t * over)) (pos s) (num_of g) (pos (den_of f)) ∙ ap (λ (w : ℤ). w *ℤ (pos (den_of f) *ℤ pos s)) crossing
      ∙ gathered z (pos (den_of g)) (pos (den_of f)) (pos s) ∙ ap (λ (n : ℕ). pos n *ℤ (z *ℤ pos s)) (mul_comm (den_of g) (den_of f))

  some_wide : pos 0 <ℤ wide
  some_wide = let h = product_positive (s * over) t (product_positive s over some_s some) some_t in omega (arith, ints, h)

  some_dens : pos 0 <ℤ dens
  some_dens = let h = product_positive (den_of f) (den_of g) f.positive g.positive in omega (arith, ints, h)

  pub less_told : left <ℤ right → (y *ℤ pos t) <ℤ (z *ℤ pos s)
  less_told less =
      let h = product_strict left right wide some_wide less in
      cancel_lt (y *ℤ pos t) (z *ℤ pos s) dens some_dens (omega (arith, ints, h, lefts, rights))

  pub told_less : (y *ℤ pos t) <ℤ (z *ℤ pos s) → left <ℤ right
  told_less less =
      let h = product_strict (y *ℤ pos t) (z *ℤ pos s) dens some_dens less in
      cancel_lt left right wide some_wide (omega (arith, ints, h, lefts, rights))

module _ (t : TableTree) (a b : HyperTree) (f g : Frac) (y z : ℤ) (is_y : IsPosterior (Table t) a.inners y) (is_z : IsPosterior (Table t) b.inners z)
    (fraction_y : IsFraction f y (a.scale * t.over)) (fraction_z : IsFraction g z (b.scale * t.over)) (some_a : 0 < a.scale) (some_b : 0 < b.scale) (some : 0 < t.over) where
  pub separates_told : (num_of f *ℤ pos (den_of g)) <ℤ (num_of g *ℤ pos (den_of f)) → Separates t a b
  separates_told less = record {
    of_a = y;
    of_b = z;
    is_of_a = is_y;
    is_of_b = is_z;
    below = less_told f g y z a.scale b.scale t.over fraction_y fraction_z some_a some_b some less;
  }

  pub told_separates : Separates t a b → (num_of f *ℤ pos (den_of g)) <ℤ (num_of g *ℤ pos (den_of f))
  told_separates is =
      let first : is.of_a ≡ y = (one_report (Table t) a.inners is.of_a y).1 is.is_of_a is_y in
      let second : is.of_b ≡ z = (one_report (Table t) b.inners is.of_b z).1 is.is_of_b is_z in
      told_less f g y z a.scale b.scale t.over fraction_y fraction_z some_a some_b some
      (subst (λ (w : ℤ). (y *ℤ pos b.scale) <ℤ (w *ℤ pos a.scale)) second (subst (λ (w : ℤ). (w *ℤ pos b.scale) <ℤ (is.of_b *ℤ pos a.scale)) first is.below))
