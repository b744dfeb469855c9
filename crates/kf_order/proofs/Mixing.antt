-- Columns that are mixed of others: whatever is wanted, a mixture is worth no more than what it is mixed of.
use Rattle.std.proofs.Common.{◌≡◌, ℕ, zero, suc, ◌*◌, ◌/◌, ◌<◌, List, [], ◌∷◌, map, sum_by, ⊎_elim}
use Rattle.std.proofs.Common.{refl, sym, ap, subst, ◌∙◌, arith}
use Rattle.std.specs.Prelude.{unsigned_abs}
use Rattle.std.proofs.Math.IntN.{ℤ, pos, ◌*ℤ◌, zero-*ℤ}
use Rattle.std.proofs.Math.Nat.{eq-zero-or-pos, mul-div_cancel}
use Rattle.std.proofs.lemmas.Int.{ints}
use Rattle.std.proofs.lemmas.List.Sums.{sum_by-cons}
use lib.Signed.{◌≤ℤ◌}
use Rattle.kf_column.specs.declared.entry.Entry.{Entry}
use Rattle.kf_column.specs.Averages.{scaled, joint_weight, joint_column, average_weight}
use Rattle.kf_column.specs.Columns.{weight_at, total as sum_of}
use Rattle.kf_column.specs.Hypers.{Inner}
use Rattle.kf_column.proofs.ClassSums.{above_scaled}
use Rattle.kf_column.proofs.Scaling.{total-scaled, total_positive, weight_at-scaled}
use Rattle.kf_column.proofs.Weights.{Above, ascending_above, column_above, positive_above}
use Rattle.kf_gain.specs.Gains.{GainOf, TableTree}
use Rattle.kf_gain.specs.Vulnerabilities.{IsAverage, IsPosterior}
use Rattle.kf_gain.specs.Worth.{IsVulnerability, NoBetter}
use Rattle.kf_gain.proofs.Adding.{ArePairs, averaged, the_average, totals}
use Rattle.kf_gain.proofs.Losing.{nothing_is_lost}
use Rattle.kf_gain.proofs.Measures.{one, scales}
use Rattle.kf_quiet.proofs.Worths.{no_better_both, nothing_better}
use Rattle.kf_simplex.specs.Base.{total}
use Rattle.kf_simplex.proofs.Sums.{total-ext, total-scale, total-scale_right, total-swap}

-- ---- no better

module _ (g : GainOf TableTree) where
  pub of_nothing : (y z : ℤ) → y ≡ pos 0 → z ≡ pos 0 → NoBetter g y z
  of_nothing y z no_y no_z = subst (λ (u : ℤ). NoBetter g u z) (sym no_y) (subst (NoBetter g (pos 0)) (sym no_z) (nothing_better g))

  total_no_better : (n : ℕ) (f h : ℕ → ℤ) → ((k : ℕ) → k < n → NoBetter g (f k) (h k)) → NoBetter g (total n f) (total n h)
  total_no_better zero f h each = nothing_better g
  total_no_better (suc n) f h each =
      no_better_both g (total n f) (total n h) (f n) (h n) (total_no_better n f h (λ (k : ℕ) (l : k < n). each k (omega arith))) (each n (omega arith))

-- a number that isn't negative
as_natural : (z : ℤ) → pos 0 ≤ℤ z → z ≡ pos (unsigned_abs z)
as_natural z some = omega (arith, ints, some)

-- ---- columns, each so many times, as inners

module _ (g : GainOf TableTree) (best : List Entry → ℤ) (are : (c : List Entry) → IsVulnerability g c (best c)) where
  no_worth : best [] ≡ pos 0
  no_worth = one g [] (best []) (pos 0 *ℤ best []) (are []) (scales g [] 0 (best []) (are [])) ∙ zero-*ℤ (best [])

  record Mixture (n : ℕ) (c : ℕ → List Entry) (k : ℕ → ℤ) : Type 0 where
    inners : List Inner
    pairs : ArePairs inners
    weights : (x : ℕ) → pos (average_weight inners x) ≡ total n (λ i. pos (weight_at (c i) x) *ℤ k i)
    whole : pos (sum_by (λ (i : Inner). i.total) inners) ≡ total n (λ i. pos (sum_of (c i)) *ℤ k i)
    posterior : IsPosterior g inners (total n (λ i. best (c i) *ℤ k i))

  module _ (c : ℕ → List Entry) (k : ℕ → ℤ) (n : ℕ) (rest : Mixture n c k) where
    -- what counts for nothing is left out
    left_out : ((x : ℕ) → pos (weight_at (c n) x) *ℤ k n ≡ pos 0) → pos (sum_of (c n)) *ℤ k n ≡ pos 0 → best (c n) *ℤ k n ≡ pos 0 → Mixture (suc n) c k
    left_out weight whole worth = record {
      inners = rest.inners;
      pairs = rest.pairs;
      weights = λ x. omega (arith, ints, rest.weights x, weight x);
      whole = omega (arith, ints, rest.whole, whole);
      posterior =
          let same : total n (λ i. best (c i) *ℤ k i) ≡ total (suc n) (λ i. best (c i) *ℤ k i) = omega (arith, ints, worth) in
          subst (IsPosterior g rest.inners) same rest.posterior;
    }

    counted : (t : ℕ) → k n ≡ pos t → 0 < t → Above 0 (c n) → (c n ≡ [] → ⊥) → Mixture (suc n) c k
    counted t is some above has =
        let column = column_above 0 (c n) above has in
        let inner : Inner = record { entries = c n; total = t * sum_of (c n) } in
        let quotient : t * sum_of (c n) / sum_of (c n) ≡ t = mul-div_cancel t (total_positive (c n) column) in
        let same : joint_column inner ≡ map (scaled t) (c n) = ap (λ (m : ℕ). map (scaled m) (c n)) quotient in
        let times : (w : ℤ) → w *ℤ k n ≡ w *ℤ pos t = λ w. ap (λ (z : ℤ). w *ℤ z) is in
        record {
          inners = inner ∷ rest.inners;
          pairs = (
            (column, subst (Above 0) (sym same) (above_scaled 0 t (c n) some above), ap sum_of same ∙ total-scaled t (c n)),
            rest.pairs,
          );
          weights = λ x.
              let here : joint_weight x inner ≡ weight_at (c n) x * t = ap (λ (m : ℕ). weight_at (c n) x * m) quotient in
              omega (arith, ints, sum_by-cons (joint_weight x) inner rest.inners, here, rest.weights x, times (pos (weight_at (c n) x)));
          whole = omega (arith, ints, sum_by-cons (λ (i : Inner). i.total) inner rest.inners, rest.whole, times (pos (sum_of (c n))));
          posterior = (
            pos t *ℤ best (c n),
            total n (λ i. best (c i) *ℤ k i),
            subst (λ (l : List Entry). IsVulnerability g l (pos t *ℤ best (c n))) (sym same) (scales g (c n) t (best (c n)) (are (c n))),
            rest.posterior,
            omega (arith, ints, times (best (c n))),
          );
        }

    one_more : pos 0 ≤ℤ k n → Above 0 (c n) → Mixture (suc n) c k
    one_more some above =
        let t : ℕ = unsigned_abs (k n) in
        let is : k n ≡ pos t = as_natural (k n) some in
        by_column (c n) refl t is above
      where
        by_column : (l : List Entry) → c n ≡ l → (t : ℕ) → k n ≡ pos t → Above 0 (c n) → Mixture (suc n) c k
        by_column [] is t times above =
            left_out (λ x. ap (λ (d : List Entry). pos (weight_at d x) *ℤ k n) is ∙ zero-*ℤ (k n)) (ap (λ (d : List Entry). pos (sum_of d) *ℤ k n) is ∙ zero-*ℤ (k n))
            (ap (λ (d : List Entry). best d *ℤ k n) is ∙ ap (λ (z : ℤ). z *ℤ k n) no_worth ∙ zero-*ℤ (k n))
        by_column (e ∷ es) is t times above =
            ⊎_elim
            (λ (nothing : t ≡ 0).
            let never : (w : ℤ) → w *ℤ k n ≡ pos 0 = λ w. ap (λ (z : ℤ). w *ℤ z) (times ∙ ap pos nothing) ∙ omega (arith, ints) in
            left_out (λ x. never (pos (weight_at (c n) x))) (never (pos (sum_of (c n)))) (never (best (c n))))
            (λ (more : 0 < t). counted t times more above (λ no. absurd (cc)))
            (eq-zero-or-pos t)

  mixture : (n : ℕ) (c : ℕ → List Entry) (k : ℕ → ℤ) → ((i : ℕ) → i < n → pos 0 ≤ℤ k i) → ((i : ℕ) → i < n → Above 0 (c i)) → Mixture n c k
  mixture zero c k some above = record { inners = []; pairs = tt; weights = λ x. refl; whole = refl; posterior = refl }
  mixture (suc n) c k some above =
      one_more c k n (mixture n c k (λ (i : ℕ) (l : i < n). some i (omega arith)) (λ (i : ℕ) (l : i < n). above i (omega arith))) (some n (omega arith))
      (above n (omega arith))

  -- ---- a column whose weights, m times, are those of a mixture

  module _ (n : ℕ) (c : ℕ → List Entry) (k : ℕ → ℤ) (some : (i : ℕ) → i < n → pos 0 ≤ℤ k i) (above : (i : ℕ) → i < n → Above 0 (c i))
      (u : List Entry) (m : ℕ) (positive : 0 < m) (above_u : Above 0 u)
      (weights : (x : ℕ) → pos m *ℤ pos (weight_at u x) ≡ total n (λ i. pos (weight_at (c i) x) *ℤ k i)) where
    abbrev parts : Mixture n c k
    parts = mixture n c k some above

    mean : IsAverage parts.inners (map (scaled m) u)
    mean = record {
      ascending = ascending_above 0 (map (scaled m) u) (above_scaled 0 m u positive above_u);
      positive = positive_above 0 (map (scaled m) u) (above_scaled 0 m u positive above_u);
      weights = λ x. omega (arith, ints, weight_at-scaled m u x, weights x, parts.weights x);
    }

    pub mixed : NoBetter g (pos m *ℤ best u) (total n (λ i. best (c i) *ℤ k i))
    mixed =
        nothing_is_lost parts.inners (pos m *ℤ best u) (total n (λ i. best (c i) *ℤ k i)) g parts.pairs
        (record { average = map (scaled m) u; is_average = mean; is = scales g u m (best u) (are u) }) parts.posterior

    -- its sum is theirs
    pub mixed_sum : pos m *ℤ pos (sum_of u) ≡ total n (λ i. pos (sum_of (c i)) *ℤ k i)
    mixed_sum =
        let same : sum_of (map (scaled m) u) ≡ sum_of (averaged parts.inners).sum = ap sum_of (the_average parts.inners (map (scaled m) u) mean) in
        omega (arith, ints, same, total-scaled m u, (averaged parts.inners).total, totals parts.inners parts.pairs, parts.whole)

  -- ---- columns that are mixed by a matrix whose rows have one sum

  module _ (m n : ℕ) (c u : ℕ → List Entry) (r : ℕ → ℕ → ℤ) (k : ℕ) (d : ℤ)
      (each : (j : ℕ) → j < n → NoBetter g (pos k *ℤ best (u j)) (total m (λ i. best (c i) *ℤ r i j)))
      (rows : (i : ℕ) → i < m → total n (r i) ≡ d) where
    pub all_mixed : NoBetter g (pos k *ℤ total n (λ j. best (u j))) (total m (λ i. best (c i)) *ℤ d)
    all_mixed =
        let left : total n (λ j. pos k *ℤ best (u j)) ≡ pos k *ℤ total n (λ j. best (u j)) = total-scale n (pos k) (λ j. best (u j)) in
        let right : total n (λ j. total m (λ i. best (c i) *ℤ r i j)) ≡ total m (λ i. best (c i)) *ℤ d =
        total-swap n m (λ j i. best (c i) *ℤ r i j)
        ∙ total-ext m (λ i. total n (λ j. best (c i) *ℤ r i j)) (λ i. best (c i) *ℤ d)
        (λ (i : ℕ) (l : i < m). total-scale n (best (c i)) (r i) ∙ ap (λ (z : ℤ). best (c i) *ℤ z) (rows i l))
        ∙ total-scale_right m d (λ i. best (c i)) in
        subst (λ (z : ℤ). NoBetter g z (total m (λ i. best (c i)) *ℤ d)) left
        (subst (NoBetter g (total n (λ j. pos k *ℤ best (u j)))) right
        (total_no_better g n (λ j. pos k *ℤ best (u j)) (λ j. total m (λ i. best (c i) *ℤ r i j)) each))
