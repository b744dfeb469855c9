-- Matrices compose: their product carries the first hyper to the last.
use Rattle.std.proofs.Common.{◌≡◌, ℕ, ◌*◌, ◌<◌, sym, ap, ◌∙◌, arith}
use Rattle.std.proofs.Math.IntN.{ℤ, pos, ◌*ℤ◌}
use Rattle.std.proofs.lemmas.Int.{ints}
use Rattle.kf_frac.proofs.Ring.{ring}
use Rattle.kf_column.proofs.Scaling.{product_positive}
use Rattle.kf_simplex.specs.Base.{total}
use Rattle.kf_simplex.proofs.Signs.{cancel, product_not_negative}
use Rattle.kf_simplex.proofs.Sums.{total-ext, total-scale, total-scale_right, total-swap, total_not_negative}
use Rattle.kf_refine.specs.Refinements.{HyperTree, count, joint, IsStochastic, CarriesWeights}
use Rattle.kf_refine.specs.Laws.{IsTransitive}
use Rattle.kf_refine.proofs.Matrices.{matrix_of, matrix_shaped, matrix_over}
use Rattle.kf_refine.proofs.Totals.{total-through}

-- the product of two matrices
abbrev product : ℕ → (ℕ → ℕ → ℤ) → (ℕ → ℕ → ℤ) → ℕ → ℕ → ℤ
product n r s i k = total n (λ j. r i j *ℤ s j k)

product_stochastic : (m n p d e : ℕ) (r s : ℕ → ℕ → ℤ) → IsStochastic m n d r → IsStochastic n p e s → IsStochastic m p (d * e) (product n r s)
product_stochastic m n p d e r s first next = record {
  not_negative = λ i k l q. total_not_negative n (λ j. r i j *ℤ s j k)
      (λ (j : ℕ) (w : j < n). product_not_negative (r i j) (s j k) (first.not_negative i j l w) (next.not_negative j k w q));
  rows = λ i l.
      total-swap p n (λ k j. r i j *ℤ s j k)
      ∙ total-ext n (λ j. total p (λ k. r i j *ℤ s j k)) (λ j. r i j *ℤ pos e)
      (λ (j : ℕ) (w : j < n). total-scale p (r i j) (s j) ∙ ap (λ (z : ℤ). r i j *ℤ z) (next.rows j w))
      ∙ total-scale_right n (pos e) (r i)
      ∙ ap (λ (z : ℤ). z *ℤ pos e) (first.rows i l);
}

-- x is what is carried over the first, y over the next: the middle's scale b cancels
through_middle : (a b c d e z : ℕ) (x y : ℤ) → 0 < b → pos b *ℤ x ≡ pos (a * d) *ℤ y → pos c *ℤ y ≡ pos (b * e) *ℤ pos z
    → pos c *ℤ x ≡ pos (a * (d * e)) *ℤ pos z
through_middle a b c d e z x y some first next =
    let h : pos c *ℤ (pos b *ℤ x) ≡ pos c *ℤ (pos a *ℤ pos d *ℤ y) = ap (λ (w : ℤ). pos c *ℤ w) first in
    let k : pos a *ℤ pos d *ℤ (pos c *ℤ y) ≡ pos a *ℤ pos d *ℤ (pos b *ℤ pos e *ℤ pos z) = ap (λ (w : ℤ). pos a *ℤ pos d *ℤ w) next in
    cancel (pos c *ℤ x) (pos a *ℤ (pos d *ℤ pos e) *ℤ pos z) (pos b) (omega (arith, ints))
    (simp ring (let u = simp ring at h in let v = simp ring at k in omega (arith, ints)))

product_carries : (a b c : HyperTree) (d e : ℕ) (r s : ℕ → ℕ → ℤ) → 0 < b.scale → CarriesWeights a b d r → CarriesWeights b c e s
    → CarriesWeights a c (d * e) (product (count b) r s)
product_carries a b c d e r s some first next x k l =
    let m = count a in
    let n = count b in
    let carried : ℤ = total m (λ i. pos (joint a x i) *ℤ product n r s i k) in
    let middle : ℤ = total n (λ j. pos (joint b x j) *ℤ s j k) in
    let f : pos b.scale *ℤ carried ≡ pos (a.scale * d) *ℤ middle =
    ap (λ (z : ℤ). pos b.scale *ℤ z) (sym (total-through m n (λ i. pos (joint a x i)) (λ j. s j k) r))
    ∙ sym (total-scale n (pos b.scale) (λ j. total m (λ i. pos (joint a x i) *ℤ r i j) *ℤ s j k))
    ∙ total-ext n (λ j. pos b.scale *ℤ (total m (λ i. pos (joint a x i) *ℤ r i j) *ℤ s j k)) (λ j. pos (a.scale * d) *ℤ (pos (joint b x j) *ℤ s j k))
    (λ (j : ℕ) (w : j < n). moved (pos b.scale) (total m (λ i. pos (joint a x i) *ℤ r i j)) (s j k) (pos (a.scale * d)) (pos (joint b x j)) (first x j w))
    ∙ total-scale n (pos (a.scale * d)) (λ j. pos (joint b x j) *ℤ s j k) in
    through_middle a.scale b.scale c.scale d e (joint c x k) carried middle some f (next x k l)
  where
    moved : (u v w p q : ℤ) → u *ℤ v ≡ p *ℤ q → u *ℤ (v *ℤ w) ≡ p *ℤ (q *ℤ w)
    moved u v w p q same = simp ring (let h = simp ring at (ap (λ (z : ℤ). z *ℤ w) same) in omega (arith, ints))

pub transitive : IsTransitive
transitive a b c proper_a proper_b proper_c (rows, first) (rows', next) =
    let r : ℕ → ℕ → ℤ = product (count b) first.number next.number in (
      matrix_of (count a) (count c) (first.over * next.over) r,
      record {
        shape = matrix_shaped (count a) (count c) (first.over * next.over) r;
        over = first.over * next.over;
        number = r;
        is_over = matrix_over (count a) (count c) (first.over * next.over) r (product_positive first.over next.over first.is_over.positive next.is_over.positive);
        stochastic = product_stochastic (count a) (count b) (count c) first.over next.over first.number next.number first.stochastic next.stochastic;
        carries = product_carries a b c first.over next.over first.number next.number proper_b.some first.carries next.carries;
      },
    )
