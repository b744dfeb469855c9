-- What the actions of a table gain from a column: `rest` times its total, and the excesses.
use Rattle.std.proofs.Common.{◌≡◌, ℕ, ◌+◌, ◌*◌, ◌<◌, ◌≤◌, ◌==◌, List, [], ◌∷◌, All, map, max, flat_map, sum_by, refl, sym, ◌∙◌, ap, arith, suc, zero, length, get_or, drop, drop-cons, add-one, if◌then◌else◌}
use Rattle.std.specs.Prelude.{ℤ, pos, ◌+ℤ◌, ◌-ℤ◌, ◌*ℤ◌, ◌≤ℤ◌, unsigned_abs}
use Rattle.std.proofs.lemmas.Int.{ints, unsigned_abs-mul}
use Rattle.std.proofs.lemmas.List.{get_or_default}
use Rattle.std.proofs.lemmas.List.Sums.{sum_by-cons, sum_by-drop_more}
use Rattle.kf_frac.proofs.Ring.{mul_add, add_mul}
use Rattle.kf_column.specs.declared.entry.Entry.{Entry}
use Rattle.kf_column.specs.Columns.{total}
use Rattle.kf_gain.specs.declared.table.Action.{Action}
use Rattle.kf_gain.specs.declared.table.GainEntry.{GainEntry}
use Rattle.kf_gain.specs.Gains.{Table, TableTree, gain_at}
use Rattle.kf_gain.specs.Worth.{gained, IsVulnerability}
use Rattle.kf_gain.specs.Vulnerabilities.{greatest, gains_of}
use Rattle.kf_gain.proofs.Acting.{best_is, gain_within, greatest-append, action_within}
use Rattle.kf_cert.specs.declared.gain_rules.excess.Excess.{Excess}
use Rattle.kf_cert.specs.NamedGains.{named_gains, excess_at, column_excess, of_action, amount_at, size_at, AreExcesses}
use Rattle.kf_cert.proofs.ActionSums.{above, under, parts, amount_parts}

-- ---- the excesses at one value

module _ (t : TableTree) (excesses these : List Excess) (x : ℕ) (are : AreExcesses t excesses)
    (those : (f : Excess → ℕ) → sum_by f these ≡ sum_by (λ (e : Excess). if e.value == x then f e else 0) excesses) where
  pub size_is : (k : ℕ) → size_at these k ≡ unsigned_abs (excess_at t k x)
  size_is k = those (of_action unsigned_abs k) ∙ are.sums unsigned_abs refl k x

  pub amount_is : (k : ℕ) → amount_at these k ≡ excess_at t k x
  amount_is k =
      let over : sum_by (of_action above k) these ≡ above (excess_at t k x) = those (of_action above k) ∙ are.sums above refl k x in
      let below : sum_by (of_action under k) these ≡ under (excess_at t k x) = those (of_action under k) ∙ are.sums under refl k x in
      amount_parts these k ∙ (λ i. pos (over i) -ℤ pos (below i)) ∙ parts (excess_at t k x)

-- ---- bounds

abbrev mine : Action → List ℤ
mine a = map (λ (e : GainEntry). e.gain) a.gains

gains_within : (actions : List Action) (k : ℕ) → greatest (map (λ (e : GainEntry). e.gain) (named_gains actions k)) ≤ greatest (flat_map mine actions)
gains_within [] k = omega arith
gains_within (a ∷ actions) zero = omega (arith, greatest-append 0 (mine a) (flat_map mine actions))
gains_within (a ∷ actions) (suc k) = omega (arith, gains_within actions k, greatest-append 0 (mine a) (flat_map mine actions))

excess_within : (t : TableTree) (k x : ℕ) → unsigned_abs (excess_at t k x) ≤ 2 * greatest (gains_of t)
excess_within t k x =
    let here : unsigned_abs (gain_at t.rest (named_gains t.actions k) x) ≤ greatest (gains_of t) =
    gain_within t.rest (named_gains t.actions k) x (greatest (gains_of t)) (omega arith) (omega (arith, gains_within t.actions k)) in
    omega (arith, ints, here)

-- the gains of one action, less `rest`
less_within : (rest : ℤ) (gains : List GainEntry) (m : ℕ) → unsigned_abs rest ≤ m → greatest (map (λ (e : GainEntry). e.gain) gains) ≤ m
    → (i : ℕ) (d : GainEntry) → i < length gains → unsigned_abs ((get_or gains i d).gain -ℤ rest) ≤ 2 * m
less_within rest [] m first others i d inside = absurd (omega (arith, inside))
less_within rest (e ∷ es) m first others zero d inside = omega (arith, ints, first, others)
less_within rest (e ∷ es) m first others (suc i) d inside = less_within rest es m first (omega (arith, others)) i d (omega (arith, inside))

pub gains_are : (actions : List Action) (k : ℕ) (a : Action) → k < length actions → get_or actions k a ≡ a → named_gains actions k ≡ a.gains
gains_are [] k a inside is = absurd (omega (arith, inside))
gains_are (b ∷ actions) zero a inside is = ap (λ (a : Action). a.gains) is
gains_are (b ∷ actions) (suc k) a inside is = gains_are actions k a (omega (arith, inside)) is

pub action_fits : (t : TableTree) (k room : ℕ) (a : Action) → k < length t.actions → get_or t.actions k a ≡ a → 2 * greatest (gains_of t) ≤ room
    → All (λ (e : GainEntry). unsigned_abs (e.gain -ℤ t.rest) ≤ room) a.gains
action_fits t k room a inside is fits i d within =
    let m : ℕ = greatest (gains_of t) in
    let same : named_gains t.actions k ≡ a.gains = gains_are t.actions k a inside is in
    omega (
      arith,
      fits,
      less_within t.rest a.gains m (omega arith) (omega (arith, gains_within t.actions k, ap (λ (l : List GainEntry). greatest (map (λ (e : GainEntry). e.gain) l)) same)) i d within,
    )

-- ---- a column, entry by entry

scaled : (w n m : ℕ) → n ≤ m → w * n ≤ w * m
scaled w n m order = grind arith

module _ (t : TableTree) (c : List Entry) (i : ℕ) (d : Entry) (inside : i < length c) where
  abbrev bound : ℕ
  bound = 2 * greatest (gains_of t)

  left : drop i c ≡ get_or c i d ∷ drop (i + 1) c
  left = rw add-one (drop-cons c i d inside)

  total_left : total (drop i c) ≡ (get_or c i d).weight + total (drop (i + 1) c)
  total_left = sum_by-drop_more (λ (e : Entry). e.weight) c i d inside

  excess_left : (k : ℕ) → column_excess t k (drop i c) ≡ pos (get_or c i d).weight *ℤ excess_at t k (get_or c i d).value +ℤ column_excess t k (drop (i + 1) c)
  excess_left k = ap (column_excess t k) left

  module _ (these : List Excess) (amounts : (k : ℕ) → amount_at these k ≡ excess_at t k (get_or c i d).value)
      (sizes : (k : ℕ) → size_at these k ≡ unsigned_abs (excess_at t k (get_or c i d).value)) where
    size_fits : (k : ℕ) → (get_or c i d).weight * size_at these k ≤ (get_or c i d).weight * bound
    size_fits k = scaled (get_or c i d).weight (size_at these k) bound (omega (arith, sizes k, excess_within t k (get_or c i d).value))

    shares : (get_or c i d).weight * bound + total (drop (i + 1) c) * bound ≡ total (drop i c) * bound
    shares = sym (ap (λ (n : ℕ). n * bound) total_left ∙ spread (get_or c i d).weight (total (drop (i + 1) c)) bound)
      where
        spread : (a b m : ℕ) → (a + b) * m ≡ a * m + b * m
        spread a b m = grind arith

    pub entry_fits : (k room : ℕ) (mid : ℤ) → unsigned_abs mid + total (drop i c) * bound ≤ room → unsigned_abs mid + (get_or c i d).weight * size_at these k ≤ room
    entry_fits k room mid had = omega (arith, had, size_fits k, shares)

    module _ (k : ℕ) (mid new : ℤ) (is : new ≡ mid +ℤ pos (get_or c i d).weight *ℤ amount_at these k) where
      added : new ≡ mid +ℤ pos (get_or c i d).weight *ℤ excess_at t k (get_or c i d).value
      added = is ∙ ap (λ (z : ℤ). mid +ℤ pos (get_or c i d).weight *ℤ z) (amounts k)

      pub next_sum : (whole : ℤ) → mid +ℤ column_excess t k (drop i c) ≡ whole → new +ℤ column_excess t k (drop (i + 1) c) ≡ whole
      next_sum whole had = omega (arith, ints, had, added, excess_left k)

      product_size : unsigned_abs (pos (get_or c i d).weight *ℤ amount_at these k) ≤ (get_or c i d).weight * bound
      product_size =
          let same : unsigned_abs (amount_at these k) ≡ size_at these k = ap unsigned_abs (amounts k) ∙ sym (sizes k) in
          omega (arith, unsigned_abs-mul (pos (get_or c i d).weight) (amount_at these k), ap (λ (n : ℕ). (get_or c i d).weight * n) same, size_fits k)

      pub next_fits : (room : ℕ) → unsigned_abs mid + total (drop i c) * bound ≤ room → unsigned_abs new + total (drop (i + 1) c) * bound ≤ room
      next_fits room had = omega (arith, ints, had, is, product_size, shares)

pub all_summed : (t : TableTree) (k : ℕ) (c : List Entry) (i : ℕ) (sum : ℤ) → drop i c ≡ [] → sum +ℤ column_excess t k (drop i c) ≡ column_excess t k c → sum ≡ column_excess t k c
all_summed t k c i sum none had =
    let last : column_excess t k (drop i c) ≡ pos 0 = ap (column_excess t k) none in
    omega (arith, ints, had, last)

-- ---- what an action gains

regrouped : (w n r x y : ℤ) → (w *ℤ r +ℤ w *ℤ x) +ℤ (n *ℤ r +ℤ y) ≡ (w +ℤ n) *ℤ r +ℤ (w *ℤ x +ℤ y)
regrouped w n r x y = let all = add_mul r w n in omega (arith, ints, all)

pub gained_is : (t : TableTree) (k : ℕ) (c : List Entry) → gained t.rest (named_gains t.actions k) c ≡ pos (total c) *ℤ t.rest +ℤ column_excess t k c
gained_is t k [] = omega (arith, ints)
gained_is t k (e ∷ es) =
    let x : ℤ = excess_at t k e.value in
    let split : gain_at t.rest (named_gains t.actions k) e.value ≡ t.rest +ℤ x = omega (arith, ints) in
    (λ i. pos e.weight *ℤ split i +ℤ gained_is t k es i)
    ∙ ap (λ (z : ℤ). z +ℤ (pos (total es) *ℤ t.rest +ℤ column_excess t k es)) (mul_add (pos e.weight) t.rest x)
    ∙ regrouped (pos e.weight) (pos (total es)) t.rest x (column_excess t k es)
    ∙ ap (λ (n : ℕ). pos n *ℤ t.rest +ℤ (pos e.weight *ℤ x +ℤ column_excess t k es)) (sym (sum_by-cons (λ (e : Entry). e.weight) e es))

module _ (t : TableTree) (c : List Entry) (sum : ℕ → ℤ) (sums : (k : ℕ) → sum k ≡ column_excess t k c) (most : ℤ)
    (reached : (k : ℕ) × (k < length t.actions) × (most ≡ sum k)) (best : (k : ℕ) → k < length t.actions → sum k ≤ℤ most) where
  action_gains : (k : ℕ) (a : Action) → k < length t.actions → get_or t.actions k a ≡ a → gained t.rest a.gains c ≡ pos (total c) *ℤ t.rest +ℤ sum k
  action_gains k a inside is =
      ap (λ (l : List GainEntry). gained t.rest l c) (sym (gains_are t.actions k a inside is)) ∙ gained_is t k c ∙ ap (λ (z : ℤ). pos (total c) *ℤ t.rest +ℤ z) (sym (sums k))

  abbrev none : Action
  none = record { name = []; gains = [] }

  found : (k : ℕ) → k < length t.actions → get_or t.actions k (get_or t.actions k none) ≡ get_or t.actions k none
  found k inside = get_or_default t.actions k (get_or t.actions k none) none inside

  -- the best action gains that much
  abbrev pub best_gain : ℤ
  best_gain = pos (total c) *ℤ t.rest +ℤ most

  reaches : best_gain ≡ gained t.rest (get_or t.actions reached.0 none).gains c
  reaches = ap (λ (z : ℤ). pos (total c) *ℤ t.rest +ℤ z) reached.2 ∙ sym (action_gains reached.0 (get_or t.actions reached.0 none) reached.1 (found reached.0 reached.1))

  pub is_best : IsVulnerability (Table t) c best_gain
  is_best = best_is t c best_gain (record {
    reached = (get_or t.actions reached.0 none, (reached.0, reached.1, found reached.0 reached.1), reaches);
    best = λ a (k, inside, is). let gain = action_gains k a inside is in omega (arith, ints, gain, best k inside);
  })

  pub best_within : (room : ℕ) → total c * (2 * greatest (gains_of t)) ≤ room → unsigned_abs best_gain ≤ room
  best_within room fits =
      omega (
        arith,
        fits,
        ap unsigned_abs reaches,
        action_within t (get_or t.actions reached.0 none) c (reached.0, reached.1, found reached.0 reached.1),
        double (total c) (greatest (gains_of t)),
      )
    where
      double : (a b : ℕ) → a * b ≤ a * (2 * b)
      double a b = grind arith

-- ---- within the width of the table

pub inner_room : (t : TableTree) (n room : ℕ) → n * max t.over (2 * greatest (gains_of t)) ≤ room → n * (2 * greatest (gains_of t)) ≤ room
inner_room t n room fits =
    omega (arith, fits, scaled n (2 * greatest (gains_of t)) (max t.over (2 * greatest (gains_of t))) (omega arith))
