-- No program leaks less than nothing: what is best before anything is seen can be done as well afterwards.
use Rattle.std.proofs.Common.{◌≡◌, ℕ, ◌+◌, ◌*◌, ◌-◌, ◌<◌, ◌≤◌, List, [], ◌∷◌, map, sum_by, refl, sym, ◌∙◌, ap, subst, arith, length, ⊎_elim}
use Rattle.std.specs.Prelude.{ℤ, pos, ◌*ℤ◌, ◌≤ℤ◌, Contains, IsPermutation}
use Rattle.std.specs.List.Sorted.{IsStrictlyIncreasing}
use Rattle.std.proofs.Math.IntN.{zero-*ℤ}
use Rattle.std.proofs.lemmas.Bool.{cases_order, cases_eq}
use Rattle.std.proofs.lemmas.Int.{ints}
use Rattle.std.proofs.lemmas.List.Sums.{sum_by-cons}
use Rattle.std.proofs.lemmas.List.Sorted.{sum_by-IsPermutation, IsPermutation-map}
use Rattle.kf_column.specs.declared.entry.Entry.{Entry}
use Rattle.kf_column.specs.Columns.{weight_at, total, values}
use Rattle.kf_column.specs.Hypers.{Inner}
use Rattle.kf_column.specs.Averages.{joint_weight, joint_column, average_weight}
use Rattle.kf_column.proofs.Weights.{Above, weight_at_head, weight_at_other, weight_below}
use Rattle.kf_column.proofs.Scaling.{total-cons}
use Rattle.kf_hyper.proofs.Averaging.{sum-mapped}
use Rattle.kf_column.proofs.Weighing.{joint_column_weighs}
use Rattle.kf_hyper.proofs.Searching.{values_rise}
use Rattle.kf_gain.specs.declared.table.Action.{Action}
use Rattle.kf_gain.specs.Gains.{GainOf, Bayes, Tries, Guessing, Table, TableTree}
use Rattle.kf_gain.specs.Worth.{gained, NoBetter, IsVulnerability}
use Rattle.kf_gain.specs.Vulnerabilities.{IsPrior, IsPosterior}
use Rattle.kf_gain.proofs.Adding.{ArePairs, Averaged, averaged, the_average, above_average, gained_all}
use Rattle.kf_gain.proofs.Falling.{all, front, front_within, Threshold, threshold, costs, cheaper, Sorted, sort}
use Rattle.kf_gain.proofs.Trying.{sum_two, same_sums, zero_sum, spread, past_head}
use Rattle.kf_gain.proofs.Guessing.{cost_is, guesses_are, weights_are}
use Rattle.kf_gain.proofs.Measures.{one, once_more}

-- ---- tries

tries_kept : (k : ℕ) (xs : List ℕ) (inners : List Inner) (z : ℤ) → IsStrictlyIncreasing xs → length xs ≤ k → IsPosterior (Tries k) inners z → pos (sum_by (average_weight inners) xs) ≤ℤ z
tries_kept k xs [] z ascending few is = omega (arith, ints, is, zero_sum (average_weight []) xs (λ x. refl))
tries_kept k xs (i ∷ inners) z ascending few (a, b, v, p, is) =
    let here : pos (sum_by (weight_at (joint_column i)) xs) ≤ℤ a = v.best (pos (sum_by (weight_at (joint_column i)) xs)) (xs, ascending, few, refl) in
    let both : sum_by (average_weight (i ∷ inners)) xs ≤ sum_by (weight_at (joint_column i)) xs + sum_by (average_weight inners) xs =
    sum_two (average_weight (i ∷ inners)) (weight_at (joint_column i)) (average_weight inners) xs (λ x. omega (arith, sum_by-cons (joint_weight x) i inners, joint_column_weighs i x)) in
    omega (arith, ints, is, here, both, tries_kept k xs inners b ascending few p)

as_tries : (inners : List Inner) (z : ℤ) → IsPosterior Bayes inners z → IsPosterior (Tries 1) inners z
as_tries [] z is = is
as_tries (i ∷ inners) z (a, b, v, p, is) = (a, b, record { reached = v.reached; best = v.best }, as_tries inners b p, is)

-- ---- actions

actions_kept : (t : TableTree) (a : Action) (inners : List Inner) (z : ℤ) → Contains t.actions a → IsPosterior (Table t) inners z → gained_all t.rest a.gains inners ≤ℤ z
actions_kept t a [] z there is = omega (arith, ints, is)
actions_kept t a (i ∷ inners) z there (b, c, v, p, is) =
    omega (arith, ints, is, v.best (gained t.rest a.gains (joint_column i)) (a, there, refl), actions_kept t a inners c there p)

-- ---- guesses

-- where each value weighs no more than in d, all weight is at d's values
covered : (low : ℕ) (c d : List Entry) → Above low c → Above low d → ((x : ℕ) → weight_at c x ≤ weight_at d x) → total c ≤ sum_by (weight_at c) (values d)
covered low [] d p q less = omega arith
covered low (e ∷ es) [] (from, some, rest) q less = absurd (omega (arith, less e.value, weight_at_head e es e.value refl))
covered low (e ∷ es) (f ∷ fs) (from, some, rest) (from', some', rest') less =
    let first : sum_by (weight_at (e ∷ es)) (values (f ∷ fs)) ≡ weight_at (e ∷ es) f.value + sum_by (weight_at (e ∷ es)) (values fs) = sum_by-cons (weight_at (e ∷ es)) f.value (values fs) in
    ⊎_elim
    (λ (same : e.value ≡ f.value).
    let more : Above (e.value + 1) fs = subst (λ (n : ℕ). Above (n + 1) fs) (sym same) rest' in
    let tails : total es ≤ sum_by (weight_at es) (values fs) = covered (e.value + 1) es fs rest more (λ x. tail x same) in
    omega (arith, first, tails, total-cons e es, weight_at_head e es f.value same, past_head e es (e.value + 1) (values fs) (values_rise (e.value + 1) fs more) (omega arith)))
    (⊎_elim
    (λ (early : e.value < f.value).
    absurd (omega (arith, less e.value, weight_at_head e es e.value refl, weight_below f.value (f ∷ fs) e.value (omega arith, some', rest') early)))
    (λ (late : f.value < e.value).
    let tails : total (e ∷ es) ≤ sum_by (weight_at (e ∷ es)) (values fs) = covered (f.value + 1) (e ∷ es) fs (omega (arith, late), some, rest) rest' (λ x. other x late) in
    omega (arith, first, tails)))
    (cases_order e.value f.value)
  where
    tail : (x : ℕ) → e.value ≡ f.value → weight_at es x ≤ weight_at fs x
    tail x same =
        ⊎_elim
        (λ (h : x ≡ e.value). omega (arith, weight_below (e.value + 1) es x rest (omega (arith, h))))
        (λ (h : x ≡ e.value → ⊥). omega (arith, less x, weight_at_other e es x (λ p. h (sym p)), weight_at_other f fs x (λ p. h (sym p ∙ sym same))))
        (cases_eq x e.value)

    other : (x : ℕ) → f.value < e.value → weight_at (e ∷ es) x ≤ weight_at fs x
    other x late =
        ⊎_elim
        (λ (h : x ≡ f.value). omega (arith, weight_below e.value (e ∷ es) x (omega arith, some, rest) (omega (arith, h, late))))
        (λ (h : x ≡ f.value → ⊥). omega (arith, less x, weight_at_other f fs x (λ p. h (sym p))))
        (cases_eq x f.value)

-- any order that has all values of a column costs at least its best one
order_kept : (c d : List Entry) (xs : List ℕ) (z : ℤ) → Above 0 c → Above 0 d → ((x : ℕ) → weight_at c x ≤ weight_at d x) → IsPermutation (values d) xs → IsVulnerability Guessing c z
    → z ≤ℤ pos (costs 1 (map (weight_at c) xs))
order_kept c d xs z above above' less order v =
    let s : Sorted (weight_at c) (values c) = sort (weight_at c) (values c) in
    let ns : List ℕ = map (weight_at c) s.zs in
    let moved : IsPermutation (map (weight_at c) (values c)) ns = IsPermutation-map (weight_at c) (values c) s.zs s.moved in
    let m : ℕ = sum_by (weight_at c) (values c) in
    let is : z ≡ pos (costs 1 ns) = one Guessing c z (pos (costs 1 ns)) v (guesses_are c m ns moved s.falls) in
    let spare : (f : ℕ → ℕ) → sum_by f ns ≡ sum_by (λ (e : Entry). f e.weight) c =
    λ f. sum_by-IsPermutation f (map (weight_at c) (values c)) ns moved ∙ ap (λ (ws : List ℕ). sum_by f ws) (weights_are 0 c above) ∙ sum-mapped (λ (e : Entry). e.weight) f c in
    let whole : all ns ≤ all (map (weight_at c) xs) =
    omega (
      arith,
      spare (λ (n : ℕ). n),
      sum-mapped (weight_at c) (λ (n : ℕ). n) xs,
      sum_by-IsPermutation (weight_at c) (values d) xs order,
      covered 0 c d above above' less,
    ) in
    let fronts : (k : ℕ) → front k (map (weight_at c) xs) ≤ front k ns =
    λ k.
    let r : Threshold k m ns = threshold k m ns s.falls in
    omega (
      arith,
      r.is,
      front_within r.t k (map (weight_at c) xs),
      sum-mapped (weight_at c) (λ (n : ℕ). n - r.t) xs,
      sum_by-IsPermutation (λ (x : ℕ). weight_at c x - r.t) (values d) xs order,
      spread r.t 0 0 c (values d) above (values_rise 0 d above'),
      spare (λ (n : ℕ). n - r.t),
    ) in
    omega (arith, ints, is, cheaper (map (weight_at c) xs) ns whole fronts)

two_costs : (f g h : ℕ → ℕ) (n : ℕ) (xs : List ℕ) → ((x : ℕ) → f x ≡ g x + h x) → costs n (map f xs) ≡ costs n (map g xs) + costs n (map h xs)
two_costs f g h n [] same = refl
two_costs f g h n (x ∷ xs) same = omega (arith, ap (λ (m : ℕ). m * n) (same x), two_costs f g h (n + 1) xs same)

orders_kept : (d : List Entry) (xs : List ℕ) (inners : List Inner) (z : ℤ) → Above 0 d → IsPermutation (values d) xs → ArePairs inners → ((x : ℕ) → average_weight inners x ≤ weight_at d x)
    → IsPosterior Guessing inners z → z ≤ℤ pos (costs 1 (map (average_weight inners) xs))
orders_kept d xs [] z above order pairs less is = omega (arith, ints, is)
orders_kept d xs (i ∷ inners) z above order (pair, rest) less (a, b, v, p, is) =
    let parts : (x : ℕ) → average_weight (i ∷ inners) x ≡ weight_at (joint_column i) x + average_weight inners x = λ x. omega (arith, sum_by-cons (joint_weight x) i inners, joint_column_weighs i x) in
    let here : a ≤ℤ pos (costs 1 (map (weight_at (joint_column i)) xs)) =
    order_kept (joint_column i) d xs a pair.1 above (λ x. omega (arith, parts x, less x)) order v in
    let others : b ≤ℤ pos (costs 1 (map (average_weight inners) xs)) = orders_kept d xs inners b above order rest (λ x. omega (arith, parts x, less x)) p in
    omega (arith, ints, is, here, others, two_costs (average_weight (i ∷ inners)) (weight_at (joint_column i)) (average_weight inners) 1 xs parts)

same_costs : (f g : ℕ → ℕ) (n : ℕ) (xs : List ℕ) → ((x : ℕ) → f x ≡ g x) → costs n (map f xs) ≡ costs n (map g xs)
same_costs f g n [] same = refl
same_costs f g n (x ∷ xs) same = omega (arith, ap (λ (m : ℕ). m * n) (same x), same_costs f g (n + 1) xs same)

-- ---- the law

module _ (inners : List Inner) (y z : ℤ) where
  tries_lose_nothing : (k : ℕ) → IsPrior (Tries k) inners y → IsPosterior (Tries k) inners z → y ≤ℤ z
  tries_lose_nothing k p q =
      let (xs, ascending, few, is) = p.is.reached in
      let same : sum_by (weight_at p.average) xs ≡ sum_by (average_weight inners) xs = same_sums (weight_at p.average) (average_weight inners) xs p.is_average.weights in
      omega (arith, ints, is, same, tries_kept k xs inners z ascending few q)

  pub nothing_is_lost : (g : GainOf TableTree) → ArePairs inners → IsPrior g inners y → IsPosterior g inners z → NoBetter g y z
  nothing_is_lost Bayes prs p q =
      tries_lose_nothing 1 (record { average = p.average; is_average = p.is_average; is = record { reached = p.is.reached; best = p.is.best } }) (as_tries inners z q)
  nothing_is_lost (Tries k) prs p q = tries_lose_nothing k p q
  nothing_is_lost Guessing prs p q =
      let (xs, order, is) = p.is.reached in
      let kept : z ≤ℤ pos (costs 1 (map (average_weight inners) xs)) =
      orders_kept p.average xs inners z (above_average inners p.average p.is_average) order prs (λ x. omega (arith, p.is_average.weights x)) q in
      omega (arith, ints, is, kept, cost_is p.average 1 xs, same_costs (weight_at p.average) (average_weight inners) 1 xs p.is_average.weights)
  nothing_is_lost (Table t) prs p q =
      let (a, there, is) = p.is.reached in
      let r : Averaged inners = averaged inners in
      let same : gained t.rest a.gains p.average ≡ gained_all t.rest a.gains inners = ap (λ (c : List Entry). gained t.rest a.gains c) (the_average inners p.average p.is_average) ∙ r.gains t.rest a.gains in
      omega (arith, ints, is, same, actions_kept t a inners z there q)

-- ---- one guess

guesses_bounded : (d : List Entry) (y : ℤ) (inners : List Inner) (z : ℤ) → IsVulnerability Bayes d y → ((x : ℕ) → average_weight inners x ≤ weight_at d x) → IsPosterior Bayes inners z
    → z ≤ℤ (pos (length inners) *ℤ y)
guesses_bounded d y [] z w less is = omega (arith, ints, is, zero-*ℤ y)
guesses_bounded d y (i ∷ inners) z w less (a, b, v, p, is) =
    let parts : (x : ℕ) → average_weight (i ∷ inners) x ≡ weight_at (joint_column i) x + average_weight inners x = λ x. omega (arith, sum_by-cons (joint_weight x) i inners, joint_column_weighs i x) in
    let (xs, ascending, few, reached) = v.reached in
    let here : sum_by (weight_at (joint_column i)) xs ≤ sum_by (weight_at d) xs =
    omega (arith, sum_two (weight_at (joint_column i)) (weight_at d) (λ (x : ℕ). 0) xs (λ x. omega (arith, parts x, less x)), zero_sum (λ (x : ℕ). 0) xs (λ x. refl)) in
    let best : pos (sum_by (weight_at d) xs) ≤ℤ y = w.best (pos (sum_by (weight_at d) xs)) (xs, ascending, few, refl) in
    let others : b ≤ℤ (pos (length inners) *ℤ y) = guesses_bounded d y inners b w (λ x. omega (arith, parts x, less x)) p in
    omega (arith, ints, is, reached, here, best, others, once_more (length inners) y)

pub bayes_is_bounded : (inners : List Inner) (y z : ℤ) → IsPrior Bayes inners y → IsPosterior Bayes inners z → z ≤ℤ (pos (length inners) *ℤ y)
bayes_is_bounded inners y z p q = guesses_bounded p.average y inners z p.is (λ x. omega (arith, p.is_average.weights x)) q
