-- Where no gain is below 0, weights that are more are worth no less.
use Rattle.std.proofs.Common.{◌≡◌, ℕ, ◌+◌, ◌*◌, ◌<◌, ◌≤◌, List, [], ◌∷◌, sum_by, ⊎_elim}
use Rattle.std.proofs.Common.{refl, sym, ap, subst, ◌∙◌, arith}
use Rattle.std.proofs.Math.IntN.{ℤ, pos, ◌+ℤ◌, ◌*ℤ◌}
use Rattle.std.proofs.lemmas.Bool.{cases_eq, cases_order}
use Rattle.std.proofs.lemmas.Int.{ints}
use Rattle.std.proofs.lemmas.List.Sums.{sum_by-cons}
use lib.Signed.{◌≤ℤ◌}
use Rattle.kf_frac.proofs.Ring.{ring}
use Rattle.kf_column.specs.declared.entry.Entry.{Entry}
use Rattle.kf_column.specs.Columns.{weight_at}
use Rattle.kf_column.proofs.Weights.{Above, weight_at_head, weight_at_other, weight_below}
use Rattle.kf_gain.specs.declared.table.GainEntry.{GainEntry}
use Rattle.kf_gain.specs.Gains.{GainOf, Bayes, Tries, Guessing, Table, TableTree, gain_at}
use Rattle.kf_gain.specs.Worth.{IsTried, IsVulnerability, gained}
use Rattle.kf_gain.proofs.Measures.{order_times}
use Rattle.kf_order.specs.Channels.{IsNotNegative}
use Rattle.kf_simplex.proofs.Signs.{product_monotone, product_not_negative}

-- each value weighs no more in c, s times, than in d, t times
abbrev pub WeighsLess : ℕ → ℕ → List Entry → List Entry → Type 0
WeighsLess s t c d = (x : ℕ) → weight_at c x * s ≤ weight_at d x * t

module _ (s t : ℕ) (some : 0 < s) where
  -- ---- an action

  module _ (rest : ℤ) (gains : List GainEntry) (not_negative : (x : ℕ) → pos 0 ≤ℤ gain_at rest gains x) where
    one_gained : (w x : ℕ) → pos 0 ≤ℤ (pos w *ℤ gain_at rest gains x)
    one_gained w x = product_not_negative (pos w) (gain_at rest gains x) (omega (arith, ints)) (not_negative x)

    some_gained : (c : List Entry) → pos 0 ≤ℤ gained rest gains c
    some_gained [] = omega (arith, ints)
    some_gained (e ∷ es) = omega (arith, ints, one_gained e.weight e.value, some_gained es)

    times_gained : (c : List Entry) (k : ℕ) → pos 0 ≤ℤ (gained rest gains c *ℤ pos k)
    times_gained c k = product_not_negative (gained rest gains c) (pos k) (some_gained c) (omega (arith, ints))

    split : (e : Entry) (es : List Entry) (k : ℕ) → gained rest gains (e ∷ es) *ℤ pos k ≡ pos (e.weight * k) *ℤ gain_at rest gains e.value +ℤ gained rest gains es *ℤ pos k
    split e es k = turned (pos e.weight) (gain_at rest gains e.value) (gained rest gains es) (pos k)
      where
        turned : (w g r k : ℤ) → (w *ℤ g +ℤ r) *ℤ k ≡ w *ℤ k *ℤ g +ℤ r *ℤ k
        turned w g r k = simp ring refl

    heads : (w v x y : ℕ) → x ≡ y → w ≤ v → (pos w *ℤ gain_at rest gains x) ≤ℤ (pos v *ℤ gain_at rest gains y)
    heads w v x y same less =
        let more = product_monotone (pos w) (pos v) (gain_at rest gains x) (not_negative x) (omega (arith, ints, less)) in
        omega (arith, ints, more, ap (λ (n : ℕ). pos v *ℤ gain_at rest gains n) same)

    gained_more : (low : ℕ) (c d : List Entry) → Above low c → Above low d → WeighsLess s t c d → (gained rest gains c *ℤ pos s) ≤ℤ (gained rest gains d *ℤ pos t)
    gained_more low [] d p q less = omega (arith, ints, times_gained d t)
    gained_more low (e ∷ es) [] (from, heavy, above) q less =
        absurd (omega (arith, less e.value, weighs e.weight heavy, ap (λ (n : ℕ). n * s) (weight_at_head e es e.value refl)))
      where
        weighs : (w : ℕ) → 0 < w → 0 < w * s
        weighs w heavy = grind arith
    gained_more low (e ∷ es) (f ∷ fs) (from, heavy, above) (from', heavy', above') less =
        ⊎_elim
        (λ (same : e.value ≡ f.value).
        let more : Above (e.value + 1) fs = subst (λ (n : ℕ). Above (n + 1) fs) (sym same) above' in
        let head : e.weight * s ≤ f.weight * t =
        omega (
          arith,
          less e.value,
          ap (λ (n : ℕ). n * s) (weight_at_head e es e.value refl ∙ ap (λ (n : ℕ). e.weight + n) (weight_below (e.value + 1) es e.value above (omega arith))),
          ap (λ (n : ℕ). n * t) (weight_at_head f fs e.value (sym same) ∙ ap (λ (n : ℕ). f.weight + n) (weight_below (e.value + 1) fs e.value more (omega arith))),
        ) in
        omega (
          arith,
          ints,
          split e es s,
          split f fs t,
          heads (e.weight * s) (f.weight * t) e.value f.value same head,
          gained_more (e.value + 1) es fs above more (λ x. tail x same),
        ))
        (⊎_elim
        (λ (early : e.value < f.value).
        absurd
        (omega (
          arith,
          less e.value,
          weighs e.weight heavy,
          ap (λ (n : ℕ). n * s) (weight_at_head e es e.value refl),
          ap (λ (n : ℕ). n * t) (weight_below f.value (f ∷ fs) e.value (omega arith, heavy', above') early),
        )))
        (λ (late : f.value < e.value).
        omega (
          arith,
          ints,
          split f fs t,
          one_gained (f.weight * t) f.value,
          gained_more (f.value + 1) (e ∷ es) fs (omega (arith, late), heavy, above) above' (λ x. other x late),
        )))
        (cases_order e.value f.value)
      where
        weighs : (w : ℕ) → 0 < w → 0 < w * s
        weighs w heavy = grind arith

        tail : (x : ℕ) → e.value ≡ f.value → weight_at es x * s ≤ weight_at fs x * t
        tail x same =
            ⊎_elim
            (λ (h : x ≡ e.value). omega (arith, ap (λ (n : ℕ). n * s) (weight_below (e.value + 1) es x above (omega (arith, h)))))
            (λ (h : x ≡ e.value → ⊥).
            omega (
              arith,
              less x,
              ap (λ (n : ℕ). n * s) (weight_at_other e es x (λ p. h (sym p))),
              ap (λ (n : ℕ). n * t) (weight_at_other f fs x (λ p. h (sym p ∙ sym same))),
            ))
            (cases_eq x e.value)

        other : (x : ℕ) → f.value < e.value → weight_at (e ∷ es) x * s ≤ weight_at fs x * t
        other x late =
            ⊎_elim
            (λ (h : x ≡ f.value). omega (arith, ap (λ (n : ℕ). n * s) (weight_below e.value (e ∷ es) x (omega arith, heavy, above) (omega (arith, h, late)))))
            (λ (h : x ≡ f.value → ⊥). omega (arith, less x, ap (λ (n : ℕ). n * t) (weight_at_other f fs x (λ p. h (sym p)))))
            (cases_eq x f.value)

  -- ---- the best of all

  module _ (c d : List Entry) (above_c : Above 0 c) (above_d : Above 0 d) (less : WeighsLess s t c d) where
    tried_more : (xs : List ℕ) → sum_by (weight_at c) xs * s ≤ sum_by (weight_at d) xs * t
    tried_more [] = omega arith
    tried_more (x ∷ xs) =
        omega (
          arith,
          less x,
          tried_more xs,
          ap (λ (n : ℕ). n * s) (sum_by-cons (weight_at c) x xs),
          ap (λ (n : ℕ). n * t) (sum_by-cons (weight_at d) x xs),
        )

    tries_more : (k : ℕ) (u v : ℤ) → IsTried k c u → ((y : ℤ) → IsTried k d y → y ≤ℤ v) → (u *ℤ pos s) ≤ℤ (v *ℤ pos t)
    tries_more k u v (xs, ascending, few, is) best =
        let at : pos (sum_by (weight_at d) xs) ≤ℤ v = best (pos (sum_by (weight_at d) xs)) (xs, ascending, few, refl) in
        omega (arith, ints, ap (λ (z : ℤ). z *ℤ pos s) is, tried_more xs, order_times t (pos (sum_by (weight_at d) xs)) v at)

    pub worth_more : (g : GainOf TableTree) (u v : ℤ) → IsNotNegative g → IsVulnerability g c u → IsVulnerability g d v → (u *ℤ pos s) ≤ℤ (v *ℤ pos t)
    worth_more Bayes u v is p q = tries_more 1 u v p.reached q.best
    worth_more (Tries k) u v is p q = tries_more k u v p.reached q.best
    worth_more Guessing u v is p q = absurd is
    worth_more (Table a) u v is p q =
        let (b, there, same) = p.reached in
        let at : gained a.rest b.gains d ≤ℤ v = q.best (gained a.rest b.gains d) (b, there, refl) in
        omega (
          arith,
          ints,
          ap (λ (z : ℤ). z *ℤ pos s) same,
          gained_more a.rest b.gains (is b there) 0 c d above_c above_d less,
          order_times t (gained a.rest b.gains d) v at,
        )
