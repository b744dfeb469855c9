-- What carries joint weights carries them however likely each value is.
use Rattle.std.proofs.Common.{◌≡◌, ℕ, ◌*◌, ◌/◌, ℤ, pos, ◌*ℤ◌, sym, ap, ◌∙◌}
use Rattle.std.proofs.Math.IntN.{pos-*ℤ-pos}
use Rattle.kf_frac.proofs.Ring.{mul_assoc, mul_left_comm}
use Rattle.kf_simplex.specs.Base.{total}
use Rattle.kf_simplex.proofs.Sums.{total-ext, total-scale}
use Rattle.kf_refine.specs.Refinements.{HyperTree, count, joint, CarriesWeights}
use Rattle.kf_refine.specs.Verdicts.{VerdictTree, Yes, No, Proves}
use Rattle.kf_prior.specs.Covering.{CarriesPriorWeights, HoldsAtEachPrior}

times : (w k : ℕ) (r : ℤ) → pos (w * k) *ℤ r ≡ pos w *ℤ (pos k *ℤ r)
times w k r = ap (λ u. u *ℤ r) (sym (pos-*ℤ-pos w k)) ∙ mul_assoc (pos w) (pos k) r

carries_times : (stores : ℕ) (a b : HyperTree) (d : ℕ) (r : ℕ → ℕ → ℤ) → CarriesWeights a b d r → CarriesPriorWeights stores a b d r
carries_times stores a b d r carries p z j within =
    let w = p (z / stores) in
    let weighed = total-ext (count a) (λ i. pos (w * joint a z i) *ℤ r i j) (λ i. pos w *ℤ (pos (joint a z i) *ℤ r i j)) (λ i below. times w (joint a z i) (r i j)) in
    ap (λ t. pos b.scale *ℤ t) (weighed ∙ total-scale (count a) (pos w) (λ i. pos (joint a z i) *ℤ r i j))
    ∙ (mul_left_comm (pos b.scale) (pos w) (total (count a) (λ i. pos (joint a z i) *ℤ r i j))
    ∙ (ap (λ t. pos w *ℤ t) (carries z j within)
    ∙ (mul_left_comm (pos w) (pos (a.scale * d)) (pos (joint b z j))
    ∙ ap (λ t. pos (a.scale * d) *ℤ t) (pos-*ℤ-pos w (joint b z j)))))

pub holds_at_each_prior : (stores : ℕ) (a b : HyperTree) (v : VerdictTree) → Proves a b v → HoldsAtEachPrior stores a b v
holds_at_each_prior stores a b (Yes rows) h = record { over = h.over; number = h.number; is_over = h.is_over; carries = carries_times stores a b h.over h.number h.carries }
holds_at_each_prior stores a b (No t) h = tt
