-- Why multipliers that refute the equations give a table that separates.
use Rattle.std.proofs.Common.{◌≡◌, ◌≢◌, ℕ, zero, suc, ◌+◌, ◌*◌, ◌<◌, ◌≤◌, ◌==◌, List, [], ◌∷◌, All, map, flat_map, length, sum_by, refl, sym, ap, ◌∙◌, subst, arith, get_or, eq-eqb, if◌then◌else◌, ⊎_elim}
use Rattle.std.specs.Prelude.{slice_index, Contains, Ok, Bool, true, false}
use Rattle.std.specs.List.Sorted.{IsStrictlyIncreasing}
use Rattle.std.proofs.Math.IntN.{ℤ, pos, ◌+ℤ◌, ◌-ℤ◌, ◌*ℤ◌, zero-*ℤ, *ℤ_comm}
use Rattle.std.proofs.lemmas.Bool.{cases_eq, ne_eqb}
use Rattle.std.proofs.lemmas.Int.{ints}
use Rattle.std.proofs.lemmas.List.{get_or_default, length-map}
use Rattle.std.proofs.lemmas.List.Elements.{All-nil, All-cons, All-append, Contains-get_or}
use lib.Signed.{◌<ℤ◌, ◌≤ℤ◌}
use Rattle.kf_frac.proofs.Ring.{ring, mul_add, mul_assoc, mul_left_comm}
use Rattle.kf_value.specs.Numbers.{target_size}
use Rattle.kf_column.specs.declared.entry.Entry.{Entry}
use Rattle.kf_column.specs.Columns.{weight_at, total as weight_total}
use Rattle.kf_column.specs.Hypers.{Inner}
use Rattle.kf_column.specs.Averages.{joint_column}
use Rattle.kf_column.proofs.Weights.{weight_at-cons}
use Rattle.kf_column.proofs.Scaling.{total-cons}
use Rattle.kf_gain.specs.declared.table.Action.{Action}
use Rattle.kf_gain.specs.declared.table.GainEntry.{GainEntry}
use Rattle.kf_gain.specs.Gains.{Table, TableTree, gain_at}
use Rattle.kf_gain.specs.Worth.{gained, IsVulnerability}
use Rattle.kf_gain.specs.Vulnerabilities.{IsPosterior, gains_of}
use Rattle.kf_column.proofs.Weighing.{joint_column_weighs}
use Rattle.kf_gain.proofs.Adding.{ArePairs, pairs}
use Rattle.kf_gain.proofs.Reports.{some_report}
use Rattle.kf_hyper.proofs.Rising.{Rises, rises}
use Rattle.kf_simplex.specs.Base.{total, at}
use Rattle.kf_simplex.specs.Runs.{multipliers}
use Rattle.kf_simplex.specs.Systems.{LinearSystem, right_column}
use Rattle.kf_simplex.specs.Solutions.{Refutes}
use Rattle.kf_simplex.specs.declared.outcome.Outcome.TheVariants as outcome
use Rattle.kf_simplex.proofs.Endings.{good_end}
use Rattle.kf_simplex.proofs.Outcomes.{multipliers_are_right}
use Rattle.kf_simplex.proofs.Signs.{cancel_lt, product_monotone, product_positive, factor_not_negative}
use Rattle.kf_simplex.proofs.Sums.{total-ext, total-add, total-scale, total-swap, total_all_zero}
use Rattle.kf_refine.specs.Refinements.{HyperTree, count, joint, Separates}
use Rattle.kf_refine.specs.Equations.{AreEquations}
use Rattle.kf_refine.specs.Verdicts.{IsTableOf, Runs, Proves, No}
use Rattle.kf_refine.specs.Views.{IsProper, action_at}
use Rattle.kf_refine.proofs.Spreading.{total-front, total-append, total-rows, total-pick, total-sums, total-differences, total-list, pair_below}

-- ---- what an action gains

past_low : (low : ℕ) (xs : List ℕ) (q : ℕ) → Rises low xs → q < length xs → low ≤ get_or xs q 0
past_low low [] q rising below = absurd (omega (arith, below))
past_low low (x ∷ xs) zero (from, rest) below = from
past_low low (x ∷ xs) (suc q) (from, rest) below = omega (arith, from, past_low (x + 1) xs q rest (omega (arith, below)))

if_yes : (b : Bool) (m n : ℕ) → b ≡ true → (if b then m else n) ≡ m
if_yes b m n e = grind arith

if_no : (b : Bool) (m n : ℕ) → b ≡ false → (if b then m else n) ≡ n
if_no b m n e = grind arith

gain_here : (rest : ℤ) (e : GainEntry) (es : List GainEntry) (x : ℕ) → e.value ≡ x → gain_at rest (e ∷ es) x ≡ e.gain
gain_here rest e es x same = ap (λ (b : Bool). if b then e.gain else gain_at rest es x) (eq-eqb e.value x same)

gain_later : (rest : ℤ) (e : GainEntry) (es : List GainEntry) (x : ℕ) → e.value ≢ x → gain_at rest (e ∷ es) x ≡ gain_at rest es x
gain_later rest e es x apart = ap (λ (b : Bool). if b then e.gain else gain_at rest es x) (ne_eqb e.value x apart)

-- the values that gains name
abbrev pub named : List GainEntry → List ℕ
named gains = map (λ e. e.value) gains

abbrev pub given : List GainEntry → List ℤ
given gains = map (λ e. e.gain) gains

-- a weight at x, where it is at the q-th value
abbrev pub share : List ℕ → ℕ → ℕ → ℕ → ℕ
share values x weight q = if x == get_or values q 0 then weight else 0

module _ (factor shift rest : ℤ) (rest_is : factor *ℤ rest ≡ shift) where
  -- a weight's gain is the shift, and at a value that is named its own number
  weight_gained : (low : ℕ) (gains : List GainEntry) (w : ℕ → ℤ) (x weight : ℕ) → Rises low (named gains)
      → ((q : ℕ) → q < length gains → factor *ℤ at (given gains) q ≡ w q +ℤ shift)
      → factor *ℤ (pos weight *ℤ gain_at rest gains x) ≡ shift *ℤ pos weight +ℤ total (length gains) (λ q. w q *ℤ pos (share (named gains) x weight q))
  weight_gained low [] w x weight rising is =
      omega (arith, ints, mul_left_comm factor (pos weight) rest, ap (λ (z : ℤ). pos weight *ℤ z) rest_is, *ℤ_comm shift (pos weight))
  weight_gained low (e ∷ es) w x weight (from, rising) is =
      let front = total-front (length es) (λ q. w q *ℤ pos (share (named (e ∷ es)) x weight q)) in
      ⊎_elim
      (λ (same : e.value ≡ x).
      let others : total (length es) (λ q. w (suc q) *ℤ pos (share (named es) x weight q)) ≡ pos 0 =
      total_all_zero (length es) (λ q. w (suc q) *ℤ pos (share (named es) x weight q))
      (λ (q : ℕ) (l : q < length es).
      let past = past_low (e.value + 1) (named es) q rising (subst (λ (n : ℕ). q < n) (sym (length-map es (λ (e : GainEntry). e.value))) l) in
      ap (λ (n : ℕ). w (suc q) *ℤ pos n) (if_no (x == get_or (named es) q 0) weight 0 (ne_eqb x (get_or (named es) q 0) (λ e'. omega (arith, same, past, e'))))
      ∙ *ℤ_comm (w (suc q)) (pos 0) ∙ zero-*ℤ (w (suc q))) in
      let first : w 0 *ℤ pos (share (named (e ∷ es)) x weight 0) ≡ w 0 *ℤ pos weight =
      ap (λ (n : ℕ). w 0 *ℤ pos n) (if_yes (x == e.value) weight 0 (eq-eqb x e.value (sym same))) in
      let gain : factor *ℤ (pos weight *ℤ gain_at rest (e ∷ es) x) ≡ pos weight *ℤ (w 0 +ℤ shift) =
      ap (λ (z : ℤ). factor *ℤ (pos weight *ℤ z)) (gain_here rest e es x same) ∙ mul_left_comm factor (pos weight) e.gain
      ∙ ap (λ (z : ℤ). pos weight *ℤ z) (is 0 (omega arith)) in
      omega (arith, ints, front, others, first, gain, mul_add (pos weight) (w 0) shift, *ℤ_comm shift (pos weight), *ℤ_comm (w 0) (pos weight)))
      (λ (apart : e.value ≢ x).
      let first : w 0 *ℤ pos (share (named (e ∷ es)) x weight 0) ≡ pos 0 =
      ap (λ (n : ℕ). w 0 *ℤ pos n) (if_no (x == e.value) weight 0 (ne_eqb x e.value (λ e'. apart (sym e')))) ∙ *ℤ_comm (w 0) (pos 0) ∙ zero-*ℤ (w 0) in
      let gain = ap (λ (z : ℤ). factor *ℤ (pos weight *ℤ z)) (gain_later rest e es x apart) in
      let later = weight_gained (e.value + 1) es (λ q. w (suc q)) x weight rising (λ q l. is (suc q) (omega (arith, l))) in
      omega (arith, ints, front, first, gain, later))
      (cases_eq e.value x)

  -- a column's gain is the shift times its total, and each named value's weight times its number
  pub column_gained : (low : ℕ) (gains : List GainEntry) (w : ℕ → ℤ) (column : List Entry) → Rises low (named gains)
      → ((q : ℕ) → q < length gains → factor *ℤ at (given gains) q ≡ w q +ℤ shift)
      → factor *ℤ gained rest gains column ≡ shift *ℤ pos (weight_total column) +ℤ total (length gains) (λ q. w q *ℤ pos (weight_at column (get_or (named gains) q 0)))
  column_gained low gains w [] rising is =
      let none : total (length gains) (λ q. w q *ℤ pos 0) ≡ pos 0 =
      total_all_zero (length gains) (λ q. w q *ℤ pos 0) (λ (q : ℕ) (l : q < length gains). *ℤ_comm (w q) (pos 0) ∙ zero-*ℤ (w q)) in
      omega (arith, ints, none)
  column_gained low gains w (e ∷ es) rising is =
      let n : ℕ = length gains in
      let here = weight_gained low gains w e.value e.weight rising is in
      let later = column_gained low gains w es rising is in
      let split : total n (λ q. w q *ℤ pos (weight_at (e ∷ es) (get_or (named gains) q 0)))
      ≡ total n (λ q. w q *ℤ pos (share (named gains) e.value e.weight q)) +ℤ total n (λ q. w q *ℤ pos (weight_at es (get_or (named gains) q 0))) =
      total-ext n (λ q. w q *ℤ pos (weight_at (e ∷ es) (get_or (named gains) q 0)))
      (λ q. w q *ℤ pos (share (named gains) e.value e.weight q) +ℤ w q *ℤ pos (weight_at es (get_or (named gains) q 0)))
      (λ (q : ℕ) (l : q < n).
      ap (λ (k : ℕ). w q *ℤ pos k) (weight_at-cons e es (get_or (named gains) q 0))
      ∙ mul_add (w q) (pos (share (named gains) e.value e.weight q)) (pos (weight_at es (get_or (named gains) q 0))))
      ∙ total-add n (λ q. w q *ℤ pos (share (named gains) e.value e.weight q)) (λ q. w q *ℤ pos (weight_at es (get_or (named gains) q 0))) in
      let whole : shift *ℤ pos (weight_total (e ∷ es)) ≡ shift *ℤ pos e.weight +ℤ shift *ℤ pos (weight_total es) =
      ap (λ (k : ℕ). shift *ℤ pos k) (total-cons e es) ∙ mul_add shift (pos e.weight) (pos (weight_total es)) in
      omega (arith, ints, here, later, split, whole, mul_add factor (pos e.weight *ℤ gain_at rest gains e.value) (gained rest gains es))

-- ---- a hyper's posterior vulnerability

-- its multiple is at most the sum of what those of the inners are at most
pub posterior_at_most : (t : TableTree) (k : ℤ) (inners : List Inner) (z : ℤ) (bound : ℕ → ℤ) (d : Inner) → IsPosterior (Table t) inners z
    → ((i : ℕ) (v : ℤ) → i < length inners → IsVulnerability (Table t) (joint_column (get_or inners i d)) v → (k *ℤ v) ≤ℤ bound i)
    → (k *ℤ z) ≤ℤ total (length inners) bound
posterior_at_most t k [] z bound d is each = omega (arith, ints, ap (λ (y : ℤ). k *ℤ y) is)
posterior_at_most t k (i ∷ inners) z bound d (first, others, v, p, is) each =
    let here = each 0 first (omega arith) v in
    let rest = posterior_at_most t k inners others (λ j. bound (suc j)) d p (λ j v l. each (suc j) v (omega (arith, l))) in
    omega (arith, ints, here, rest, total-front (length inners) bound, ap (λ (y : ℤ). k *ℤ y) is, mul_add k first others)

-- and at least the sum of what those of the inners are at least
pub posterior_at_least : (t : TableTree) (k : ℤ) (inners : List Inner) (z : ℤ) (bound : ℕ → ℤ) (d : Inner) → IsPosterior (Table t) inners z
    → ((i : ℕ) (v : ℤ) → i < length inners → IsVulnerability (Table t) (joint_column (get_or inners i d)) v → bound i ≤ℤ (k *ℤ v))
    → total (length inners) bound ≤ℤ (k *ℤ z)
posterior_at_least t k [] z bound d is each = omega (arith, ints, ap (λ (y : ℤ). k *ℤ y) is)
posterior_at_least t k (i ∷ inners) z bound d (first, others, v, p, is) each =
    let here = each 0 first (omega arith) v in
    let rest = posterior_at_least t k inners others (λ j. bound (suc j)) d p (λ j v l. each (suc j) v (omega (arith, l))) in
    omega (arith, ints, here, rest, total-front (length inners) bound, ap (λ (y : ℤ). k *ℤ y) is, mul_add k first others)

-- ---- numbers

-- the two bounds come together
separated : (k c o ta tb va vb r z : ℤ) → pos 0 <ℤ k → pos 0 <ℤ o → pos 0 <ℤ ta → pos 0 <ℤ tb
    → (k *ℤ va) ≤ℤ (c *ℤ ta -ℤ (o *ℤ ta) *ℤ z) → (c *ℤ tb +ℤ (o *ℤ tb) *ℤ r) ≤ℤ (k *ℤ vb) → pos 0 <ℤ (r +ℤ z)
    → (va *ℤ tb) <ℤ (vb *ℤ ta)
separated k c o ta tb va vb r z some some_o some_a some_b of_a of_b above =
    let wide_a : pos 0 ≤ℤ ta = omega (arith, ints) in
    let wide_b : pos 0 ≤ℤ tb = omega (arith, ints) in
    let low = simp ring at (product_monotone (k *ℤ va) (c *ℤ ta -ℤ (o *ℤ ta) *ℤ z) tb wide_b of_a) in
    let high = simp ring at (product_monotone (c *ℤ tb +ℤ (o *ℤ tb) *ℤ r) (k *ℤ vb) ta wide_a of_b) in
    let gap = simp ring at (product_positive (o *ℤ (ta *ℤ tb)) (r +ℤ z) (product_positive o (ta *ℤ tb) some_o (product_positive ta tb some_a some_b)) above) in
    cancel_lt (va *ℤ tb) (vb *ℤ ta) k some (simp ring (omega (arith, ints, low, high, gap)))

-- an inner of a: its multiple is at most what the column of its unknowns leaves
at_most_here : (f factor shift g v weights sum sum' z : ℤ) → pos 0 ≤ℤ g → factor *ℤ v ≡ shift *ℤ weights +ℤ sum → f *ℤ sum ≡ g *ℤ sum' → (sum' +ℤ z) ≤ℤ pos 0
    → ((f *ℤ factor) *ℤ v) ≤ℤ ((f *ℤ shift) *ℤ weights -ℤ g *ℤ z)
at_most_here f factor shift g v weights sum sum' z wide gains sums column =
    omega (
      arith,
      ints,
      mul_assoc f factor v,
      ap (λ (x : ℤ). f *ℤ x) gains,
      mul_add f (shift *ℤ weights) sum,
      mul_assoc f shift weights,
      sums,
      product_monotone (sum' +ℤ z) (pos 0) g wide column,
      mul_add g sum' z,
    )

-- an inner of b: its multiple is at least what its own action gains
at_least_here : (f factor shift g v w weights sum sum' : ℤ) → pos 0 ≤ℤ (f *ℤ factor) → factor *ℤ w ≡ shift *ℤ weights +ℤ sum → f *ℤ sum ≡ g *ℤ sum' → w ≤ℤ v
    → ((f *ℤ shift) *ℤ weights +ℤ g *ℤ sum') ≤ℤ ((f *ℤ factor) *ℤ v)
at_least_here f factor shift g v w weights sum sum' wide gains sums best =
    omega (
      arith,
      ints,
      mul_assoc f factor w,
      ap (λ (x : ℤ). f *ℤ x) gains,
      mul_add f (shift *ℤ weights) sum,
      mul_assoc f shift weights,
      sums,
      product_monotone w v (f *ℤ factor) wide best,
    )

-- numbers times weights that are multiples
weighed_multiples : (m : ℕ) (f g : ℤ) (y u w : ℕ → ℤ) → ((q : ℕ) → q < m → f *ℤ u q ≡ g *ℤ w q)
    → f *ℤ total m (λ q. y q *ℤ u q) ≡ g *ℤ total m (λ q. y q *ℤ w q)
weighed_multiples m f g y u w same =
    sym (total-scale m f (λ q. y q *ℤ u q))
    ∙ total-ext m (λ q. f *ℤ (y q *ℤ u q)) (λ q. g *ℤ (y q *ℤ w q))
    (λ (q : ℕ) (l : q < m). mul_left_comm f (y q) (u q) ∙ ap (λ (z : ℤ). y q *ℤ z) (same q l) ∙ mul_left_comm (y q) g (w q))
    ∙ total-scale m g (λ q. y q *ℤ w q)

times_one : (z : ℤ) → z *ℤ pos 1 ≡ z
times_one z = omega (arith, ints)

-- ---- the equations, each times its multiplier

module _ (a b : HyperTree) (s : LinearSystem) (e : AreEquations a b s) (y : ℕ → ℤ) (refutes : Refutes s y) where
  column_total : (c : ℕ) → total s.equations (λ k. y k *ℤ s.number k c)
      ≡ total (length e.values) (λ q. total (count b) (λ j. y (q * count b + j) *ℤ s.number (q * count b + j) c))
      +ℤ total (count a) (λ p. y (length e.values * count b + p) *ℤ s.number (length e.values * count b + p) c)
  column_total c =
      let n : ℕ = count b in
      let kept : ℕ = length e.values in
      ap (λ (v : ℕ). total v (λ k. y k *ℤ s.number k c)) e.equations
      ∙ total-append (kept * n) (count a) (λ k. y k *ℤ s.number k c)
      ∙ ap (λ (z : ℤ). z +ℤ total (count a) (λ p. y (kept * n + p) *ℤ s.number (kept * n + p) c)) (total-rows kept n (λ k. y k *ℤ s.number k c))

  -- at the unknown of i and l
  unknown_at_most : (i l : ℕ) → i < count a → l < count b
      → (total (length e.values) (λ q. y (q * count b + l) *ℤ pos (e.u (slice_index e.values q) i)) +ℤ y (length e.values * count b + i)) ≤ℤ pos 0
  unknown_at_most i l pi pl =
      let m : ℕ = count a in
      let n : ℕ = count b in
      let kept : ℕ = length e.values in
      let c : ℕ = i * n + l in
      let bound = refutes.unknowns c (rw e.unknowns (pair_below m n i l pi pl)) in
      let first : total kept (λ q. total n (λ j. y (q * n + j) *ℤ s.number (q * n + j) c)) ≡ total kept (λ q. y (q * n + l) *ℤ pos (e.u (slice_index e.values q) i)) =
      total-ext kept (λ q. total n (λ j. y (q * n + j) *ℤ s.number (q * n + j) c)) (λ q. y (q * n + l) *ℤ pos (e.u (slice_index e.values q) i))
      (λ (q : ℕ) (p : q < kept).
      total-ext n (λ j. y (q * n + j) *ℤ s.number (q * n + j) c) (λ j. y (q * n + j) *ℤ (if j == l then pos (e.u (slice_index e.values q) i) else pos 0))
      (λ (j : ℕ) (r : j < n). ap (λ (z : ℤ). y (q * n + j) *ℤ z) (e.weight q j i l p r pi pl))
      ∙ total-pick n l (pos (e.u (slice_index e.values q) i)) (λ j. y (q * n + j)) pl) in
      let second : total m (λ p. y (kept * n + p) *ℤ s.number (kept * n + p) c) ≡ y (kept * n + i) *ℤ pos 1 =
      total-ext m (λ p. y (kept * n + p) *ℤ s.number (kept * n + p) c) (λ p. y (kept * n + p) *ℤ (if p == i then pos 1 else pos 0))
      (λ (p : ℕ) (r : p < m). ap (λ (z : ℤ). y (kept * n + p) *ℤ z) (e.entry p i l r pi pl))
      ∙ total-pick m i (pos 1) (λ p. y (kept * n + p)) pi in
      omega (arith, ints, bound, column_total c, first, second, times_one (y (kept * n + i)))

  -- at the right sides
  pub right_above : pos 0 <ℤ (total (count b) (λ j. total (length e.values) (λ q. y (q * count b + j) *ℤ pos (e.v (slice_index e.values q) j)))
      +ℤ total (count a) (λ p. y (length e.values * count b + p)))
  right_above =
      let m : ℕ = count a in
      let n : ℕ = count b in
      let kept : ℕ = length e.values in
      let c : ℕ = right_column s in
      let first : total kept (λ q. total n (λ j. y (q * n + j) *ℤ s.number (q * n + j) c)) ≡ total n (λ j. total kept (λ q. y (q * n + j) *ℤ pos (e.v (slice_index e.values q) j))) =
      total-ext kept (λ q. total n (λ j. y (q * n + j) *ℤ s.number (q * n + j) c)) (λ q. total n (λ j. y (q * n + j) *ℤ pos (e.v (slice_index e.values q) j)))
      (λ (q : ℕ) (p : q < kept).
      total-ext n (λ j. y (q * n + j) *ℤ s.number (q * n + j) c) (λ j. y (q * n + j) *ℤ pos (e.v (slice_index e.values q) j))
      (λ (j : ℕ) (r : j < n). ap (λ (z : ℤ). y (q * n + j) *ℤ z) (e.sum q j p r)))
      ∙ total-swap kept n (λ q j. y (q * n + j) *ℤ pos (e.v (slice_index e.values q) j)) in
      let second : total m (λ p. y (kept * n + p) *ℤ s.number (kept * n + p) c) ≡ total m (λ p. y (kept * n + p)) =
      total-ext m (λ p. y (kept * n + p) *ℤ s.number (kept * n + p) c) (λ p. y (kept * n + p))
      (λ (p : ℕ) (r : p < m). ap (λ (z : ℤ). y (kept * n + p) *ℤ z) (e.one p r) ∙ times_one (y (kept * n + p))) in
      omega (arith, ints, refutes.right, column_total c, first, second)

-- ---- the table

-- what stands past a hyper's last inner
abbrev no_inner : Inner
no_inner = record { entries = []; total = 0 }

abbrev inner_at : HyperTree → ℕ → Inner
inner_at h i = get_or h.inners i no_inner

-- an inner's joint weights sum to its total
pair_at : (inners : List Inner) (i : ℕ) (d : Inner) → i < length inners → ArePairs inners → weight_total (joint_column (get_or inners i d)) ≡ (get_or inners i d).total
pair_at [] i d below are = absurd (omega (arith, below))
pair_at (x ∷ inners) zero d below (pair, rest) = pair.2
pair_at (x ∷ inners) (suc i) d below (pair, rest) = pair_at inners i d (omega (arith, below)) rest

-- all totals together are the scale
whole_totals : (h : HyperTree) → IsProper h → total (count h) (λ i. pos (inner_at h i).total) ≡ pos h.scale
whole_totals h is = total-list (λ (i : Inner). i.total) h.inners no_inner ∙ ap pos is.whole

some_inner : (inners : List Inner) → 0 < sum_by (λ (i : Inner). i.total) inners → 0 < length inners
some_inner [] some = absurd (omega (arith, some))
some_inner (i ∷ inners) some = omega arith

-- some action of the table comes to the best
best_action : (t : TableTree) (column : List Entry) (v : ℤ) → IsVulnerability (Table t) column v
    → (l : ℕ) × (l < length t.actions) × (v ≡ gained t.rest (action_at t.actions l).gains column)
best_action t column v best =
    let (act, (l, inside, is), same) = best.reached in
    (l, inside, same ∙ ap (λ (x : Action). gained t.rest x.gains column) (sym (get_or_default t.actions l (record { name = []; gains = [] }) act inside ∙ is)))

-- and no action to more
no_better_action : (t : TableTree) (column : List Entry) (v : ℤ) (l : ℕ) → IsVulnerability (Table t) column v → l < length t.actions
    → gained t.rest (action_at t.actions l).gains column ≤ℤ v
no_better_action t column v l best inside =
    best.best (gained t.rest (action_at t.actions l).gains column)
    (action_at t.actions l, Contains-get_or t.actions l (record { name = []; gains = [] }) inside, refl)

module _ (a b : HyperTree) (s : LinearSystem) (e : AreEquations a b s) (ys : List ℤ) (t : TableTree) (table : IsTableOf e.values (count b) ys t) where
  action_gained : (l : ℕ) (column : List Entry) → l < count b
      → pos table.factor *ℤ gained t.rest (action_at t.actions l).gains column
      ≡ pos table.shift *ℤ pos (weight_total column) +ℤ total (length e.values) (λ q. at ys (q * count b + l) *ℤ pos (weight_at column (slice_index e.values q)))
  action_gained l column below =
      let n : ℕ = count b in
      let is = table.actions l below in
      let gains : List GainEntry = (action_at t.actions l).gains in
      let size : length gains ≡ length e.values = sym (length-map gains (λ (e : GainEntry). e.value)) ∙ ap (λ (vs : List ℕ). length vs) is.values in
      column_gained (pos table.factor) (pos table.shift) t.rest table.rest 0 gains (λ q. at ys (q * n + l)) column
      (rises (named gains) (subst IsStrictlyIncreasing (sym is.values) e.are_kept.ascending))
      (λ q p. is.gains q (subst (λ (k : ℕ). q < k) size p))
      ∙ ap (λ (z : ℤ). pos table.shift *ℤ pos (weight_total column) +ℤ z)
      (ap (λ (k : ℕ). total k (λ q. at ys (q * n + l) *ℤ pos (weight_at column (get_or (named gains) q 0)))) size
      ∙ ap (λ (vs : List ℕ). total (length e.values) (λ q. at ys (q * n + l) *ℤ pos (weight_at column (get_or vs q 0)))) is.values)

  inner_gained : (h : HyperTree) (i l : ℕ) → IsProper h → i < count h → l < count b
      → pos table.factor *ℤ gained t.rest (action_at t.actions l).gains (joint_column (inner_at h i))
      ≡ pos table.shift *ℤ pos (inner_at h i).total +ℤ total (length e.values) (λ q. at ys (q * count b + l) *ℤ pos (joint h (slice_index e.values q) i))
  inner_gained h i l is inside below =
      let n : ℕ = count b in
      let column : List Entry = joint_column (inner_at h i) in
      action_gained l column below
      ∙ ap (λ (k : ℕ). pos table.shift *ℤ pos k +ℤ total (length e.values) (λ q. at ys (q * n + l) *ℤ pos (weight_at column (slice_index e.values q))))
      (pair_at h.inners i no_inner inside (pairs (target_size h.target) h.scale h.inners is))
      ∙ ap (λ (z : ℤ). pos table.shift *ℤ pos (inner_at h i).total +ℤ z)
      (total-ext (length e.values) (λ q. at ys (q * n + l) *ℤ pos (weight_at column (slice_index e.values q))) (λ q. at ys (q * n + l) *ℤ pos (joint h (slice_index e.values q) i))
      (λ (q : ℕ) (p : q < length e.values). ap (λ (k : ℕ). at ys (q * n + l) *ℤ pos k) (joint_column_weighs (inner_at h i) (slice_index e.values q))))

  kept_at : (q : ℕ) → q < length e.values → Contains e.values (slice_index e.values q)
  kept_at q below = Contains-get_or e.values q 0 below

  module _ (refutes : Refutes s (at ys)) where
    -- the bound of a: no action gains more
    of_a_at_most : (z : ℤ) → IsProper a → IsPosterior (Table t) a.inners z
        → ((pos e.are_whole.factor *ℤ pos table.factor) *ℤ z)
        ≤ℤ ((pos e.are_whole.factor *ℤ pos table.shift) *ℤ pos a.scale
        -ℤ (pos e.are_whole.over *ℤ pos a.scale) *ℤ total (count a) (λ p. at ys (length e.values * count b + p)))
    of_a_at_most z is posterior =
        let w = e.are_whole in
        let n : ℕ = count b in
        let kept : ℕ = length e.values in
        let c : ℤ = pos w.factor *ℤ pos table.shift in
        let g : ℤ = pos w.over *ℤ pos a.scale in
        let wide : pos 0 ≤ℤ g = omega (arith, ints) in
        let rest : ℕ → ℤ = λ p. at ys (kept * n + p) in
        let bound : ℕ → ℤ = λ i. c *ℤ pos (inner_at a i).total -ℤ g *ℤ rest i in
        let each : (i : ℕ) (v : ℤ) → i < count a → IsVulnerability (Table t) (joint_column (inner_at a i)) v → ((pos w.factor *ℤ pos table.factor) *ℤ v) ≤ℤ bound i = λ i v inside best.
        let (l, within, same) = best_action t (joint_column (inner_at a i)) v best in
        let below : l < n = subst (λ (k : ℕ). l < k) table.many within in
        let sums = weighed_multiples kept (pos w.factor) g (λ q. at ys (q * n + l)) (λ q. pos (joint a (slice_index e.values q) i)) (λ q. pos (e.u (slice_index e.values q) i))
        (λ q p. ap pos (sym (w.of_a (slice_index e.values q) i (kept_at q p) inside))) in
        at_most_here (pos w.factor) (pos table.factor) (pos table.shift) g v (pos (inner_at a i).total)
        (total kept (λ q. at ys (q * n + l) *ℤ pos (joint a (slice_index e.values q) i))) (total kept (λ q. at ys (q * n + l) *ℤ pos (e.u (slice_index e.values q) i))) (rest i)
        wide (ap (λ (x : ℤ). pos table.factor *ℤ x) same ∙ inner_gained a i l is inside below) sums (unknown_at_most a b s e (at ys) refutes i l inside below) in
        let sum : total (count a) bound ≡ c *ℤ pos a.scale -ℤ g *ℤ total (count a) rest =
        total-differences (count a) c g (λ i. pos (inner_at a i).total) rest
        ∙ ap (λ (x : ℤ). c *ℤ x -ℤ g *ℤ total (count a) rest) (whole_totals a is) in
        subst (λ (x : ℤ). ((pos w.factor *ℤ pos table.factor) *ℤ z) ≤ℤ x) sum
        (posterior_at_most t (pos w.factor *ℤ pos table.factor) a.inners z bound no_inner posterior each)

    -- the bound of b: each of its inners has an action
    of_b_at_least : (z : ℤ) → IsProper b → IsPosterior (Table t) b.inners z
        → ((pos e.are_whole.factor *ℤ pos table.shift) *ℤ pos b.scale
        +ℤ (pos e.are_whole.over *ℤ pos b.scale) *ℤ total (count b) (λ j. total (length e.values) (λ q. at ys (q * count b + j) *ℤ pos (e.v (slice_index e.values q) j))))
        ≤ℤ ((pos e.are_whole.factor *ℤ pos table.factor) *ℤ z)
    of_b_at_least z is posterior =
        let w = e.are_whole in
        let n : ℕ = count b in
        let kept : ℕ = length e.values in
        let c : ℤ = pos w.factor *ℤ pos table.shift in
        let g : ℤ = pos w.over *ℤ pos b.scale in
        let wide : pos 0 ≤ℤ (pos w.factor *ℤ pos table.factor) = omega (arith, ints) in
        let sum_at : ℕ → ℤ = λ j. total kept (λ q. at ys (q * n + j) *ℤ pos (e.v (slice_index e.values q) j)) in
        let bound : ℕ → ℤ = λ j. c *ℤ pos (inner_at b j).total +ℤ g *ℤ sum_at j in
        let each : (j : ℕ) (v : ℤ) → j < n → IsVulnerability (Table t) (joint_column (inner_at b j)) v → bound j ≤ℤ ((pos w.factor *ℤ pos table.factor) *ℤ v) = λ j v inside best.
        let within : j < length t.actions = subst (λ (k : ℕ). j < k) (sym table.many) inside in
        let sums = weighed_multiples kept (pos w.factor) g (λ q. at ys (q * n + j)) (λ q. pos (joint b (slice_index e.values q) j)) (λ q. pos (e.v (slice_index e.values q) j))
        (λ q p. ap pos (sym (w.of_b (slice_index e.values q) j (kept_at q p) inside))) in
        at_least_here (pos w.factor) (pos table.factor) (pos table.shift) g v (gained t.rest (action_at t.actions j).gains (joint_column (inner_at b j))) (pos (inner_at b j).total)
        (total kept (λ q. at ys (q * n + j) *ℤ pos (joint b (slice_index e.values q) j))) (sum_at j)
        wide (inner_gained b j j is inside inside) sums (no_better_action t (joint_column (inner_at b j)) v j best within) in
        let sum : total n bound ≡ c *ℤ pos b.scale +ℤ g *ℤ total n sum_at =
        total-sums n c g (λ j. pos (inner_at b j).total) sum_at
        ∙ ap (λ (x : ℤ). c *ℤ x +ℤ g *ℤ total n sum_at) (whole_totals b is) in
        subst (λ (x : ℤ). x ≤ℤ ((pos w.factor *ℤ pos table.factor) *ℤ z)) sum
        (posterior_at_least t (pos w.factor *ℤ pos table.factor) b.inners z bound no_inner posterior each)

    separates : IsProper a → IsProper b → Separates t a b
    separates is_a is_b =
        let w = e.are_whole in
        let some : 0 < length t.actions = rw table.many (some_inner b.inners (rw is_b.whole is_b.some)) in
        let has : t.actions ≢ [] = λ none. omega (arith, some, ap (λ (l : List Action). length l) none) in
        let y : (z : ℤ) × IsPosterior (Table t) a.inners z = (some_report (Table t) a.inners has).1 in
        let z : (z : ℤ) × IsPosterior (Table t) b.inners z = (some_report (Table t) b.inners has).1 in
        let k : pos 0 <ℤ (pos w.factor *ℤ pos table.factor) =
        product_positive (pos w.factor) (pos table.factor) (omega (arith, ints, w.some_factor)) (omega (arith, ints, table.some_factor)) in
        record {
          of_a = y.0;
          of_b = z.0;
          is_of_a = y.1;
          is_of_b = z.1;
          below = separated (pos w.factor *ℤ pos table.factor) (pos w.factor *ℤ pos table.shift) (pos w.over) (pos a.scale) (pos b.scale) y.0 z.0
              (total (count b) (λ j. total (length e.values) (λ q. at ys (q * count b + j) *ℤ pos (e.v (slice_index e.values q) j))))
              (total (count a) (λ p. at ys (length e.values * count b + p)))
              k (omega (arith, ints, w.some_over)) (omega (arith, ints, is_a.some)) (omega (arith, ints, is_b.some))
              (of_a_at_most y.0 is_a y.1) (of_b_at_least z.0 is_b z.1) (right_above a b s e (at ys) refutes);
        }

  -- ---- its gains

  rest_not_negative : pos 0 ≤ℤ t.rest
  rest_not_negative =
      factor_not_negative (pos table.factor) t.rest (omega (arith, ints, table.some_factor)) (omega (arith, ints, table.rest))

  action_not_negative : (j : ℕ) → j < length t.actions → All (λ (z : ℤ). pos 0 ≤ℤ z) (given (action_at t.actions j).gains)
  action_not_negative j inside q d within =
      let below : j < count b = subst (λ (k : ℕ). j < k) table.many inside in
      let is = table.actions j below in
      let gains : List GainEntry = (action_at t.actions j).gains in
      let size : length (given gains) ≡ length e.values =
      length-map gains (λ (e : GainEntry). e.gain) ∙ sym (length-map gains (λ (e : GainEntry). e.value)) ∙ ap (λ (vs : List ℕ). length vs) is.values in
      let kept : q < length e.values = subst (λ (k : ℕ). q < k) size within in
      let product : pos 0 ≤ℤ (pos table.factor *ℤ at (given gains) q) = subst (λ (z : ℤ). pos 0 ≤ℤ z) (sym (is.gains q kept)) (table.is_shift.enough q j kept below) in
      subst (λ (z : ℤ). pos 0 ≤ℤ z) (get_or_default (given gains) q (pos 0) d within)
      (factor_not_negative (pos table.factor) (at (given gains) q) (omega (arith, ints, table.some_factor)) product)

  none_negative : All (λ (z : ℤ). pos 0 ≤ℤ z) (gains_of t)
  none_negative =
      All-cons (λ (z : ℤ). pos 0 ≤ℤ z) t.rest (flat_map (λ (a : Action). given a.gains) t.actions) rest_not_negative
      (each_action t.actions action_not_negative)
    where
      each_action : (actions : List Action) → ((j : ℕ) → j < length actions → All (λ (z : ℤ). pos 0 ≤ℤ z) (given (action_at actions j).gains))
          → All (λ (z : ℤ). pos 0 ≤ℤ z) (flat_map (λ (a : Action). given a.gains) actions)
      each_action [] each = All-nil (λ (z : ℤ). pos 0 ≤ℤ z)
      each_action (x ∷ actions) each =
          All-append (λ (z : ℤ). pos 0 ≤ℤ z) (given x.gains) (flat_map (λ (a : Action). given a.gains) actions) (each 0 (omega arith))
          (each_action actions (λ j below. each (suc j) (omega (arith, below))))

pub table_proves : (a b : HyperTree) (pivots : ℕ) (ys : List ℤ) (t : TableTree) → IsProper a → IsProper b → (run : Runs a b pivots (Ok (outcome.Multipliers ys)))
    → IsTableOf run.equations.values (count b) ys t → Proves a b (No t)
table_proves a b pivots ys t is_a is_b run table =
    let s : LinearSystem = run.system in
    let answer = run.is_answer in
    let end = answer.2 in
    let refutes : Refutes s (at ys) =
    multipliers_are_right s answer.1 ys (good_end s pivots answer.0 answer.1 multipliers run.equations.system end) end.ends.1 end.ends.2 answer.3 in
    (separates a b s run.equations ys t table refutes is_a is_b, table.over, none_negative a b s run.equations ys t table)
