-- The vulnerability of a column: there is one, and no other; it grows with the weights; and how great it can be.
use Rattle.std.proofs.Common.{◌≡◌, ℕ, ◌+◌, ◌*◌, ◌≤◌, List, [], ◌∷◌, map, sum_by, refl, sym, ◌∙◌, ap, subst, arith, suc, zero, length}
use Rattle.std.specs.Prelude.{ℤ, pos, ◌+ℤ◌, ◌*ℤ◌, ◌≤ℤ◌, unsigned_abs, IsPermutation}
use Rattle.std.proofs.Math.IntN.{zero-*ℤ}
use Rattle.std.proofs.lemmas.Int.{ints}
use Rattle.std.proofs.lemmas.List.Sums.{sum_by-cons}
use Rattle.kf_frac.proofs.Ring.{add_mul, mul_add, mul_assoc}
use Rattle.kf_column.specs.declared.entry.Entry.{Entry}
use Rattle.kf_column.specs.Columns.{weight_at, total, values, IsColumn}
use Rattle.kf_column.specs.Averages.{scaled}
use Rattle.kf_column.proofs.Weights.{Above, above_column}
use Rattle.kf_column.proofs.Scaling.{weight_at-scaled}
use Rattle.kf_hyper.proofs.Rising.{rises}
use Rattle.kf_gain.specs.declared.table.GainEntry.{GainEntry}
use Rattle.kf_gain.specs.Gains.{GainOf, Bayes, Tries, Guessing, Table, TableTree, gain_at}
use Rattle.kf_gain.specs.Worth.{gained, cost_from, IsTried, Reaches, NoBetter, IsVulnerability}
use Rattle.kf_gain.specs.Vulnerabilities.{greatest, gains_of, width}
use Rattle.kf_gain.specs.Laws.{HasActions}
use Rattle.kf_gain.proofs.Trying.{tried_total, some_tries, bayes_is}
use Rattle.kf_gain.proofs.Guessing.{some_guesses, cost_within}
use Rattle.kf_gain.proofs.Acting.{some_action, action_within}

pub some : (g : GainOf TableTree) (c : List Entry) → HasActions g → (z : ℤ) × IsVulnerability g c z
some Bayes c has = let r = some_tries 1 c in (r.0, bayes_is c r.0 r.1)
some (Tries k) c has = some_tries k c
some Guessing c has = some_guesses c
some (Table t) c has = some_action t c has

-- two numbers of which neither is better are the same
both_ways : (g : GainOf TableTree) (y z : ℤ) → NoBetter g y z → NoBetter g z y → y ≡ z
both_ways Bayes y z p q = omega (arith, ints, p, q)
both_ways (Tries k) y z p q = omega (arith, ints, p, q)
both_ways Guessing y z p q = omega (arith, ints, p, q)
both_ways (Table t) y z p q = omega (arith, ints, p, q)

pub one : (g : GainOf TableTree) (c : List Entry) (y z : ℤ) → IsVulnerability g c y → IsVulnerability g c z → y ≡ z
one g c y z v w = both_ways g y z (w.best y v.reached) (v.best z w.reached)

-- ---- multiples

module _ (k : ℕ) where
  tried_multiple : (c : List Entry) (xs : List ℕ) → sum_by (weight_at (map (scaled k) c)) xs ≡ k * sum_by (weight_at c) xs
  tried_multiple c [] = omega arith
  tried_multiple c (x ∷ xs) =
      omega (
        arith,
        sum_by-cons (weight_at (map (scaled k) c)) x xs,
        ap (λ (n : ℕ). k * n) (sum_by-cons (weight_at c) x xs),
        weight_at-scaled k c x,
        tried_multiple c xs,
      )

  cost_multiple : (c : List Entry) (n : ℕ) (xs : List ℕ) → cost_from (map (scaled k) c) n xs ≡ k * cost_from c n xs
  cost_multiple c n [] = omega arith
  cost_multiple c n (x ∷ xs) = omega (arith, ap (λ (m : ℕ). m * n) (weight_at-scaled k c x), cost_multiple c (n + 1) xs)

  gained_multiple : (rest : ℤ) (gains : List GainEntry) (c : List Entry) → gained rest gains (map (scaled k) c) ≡ pos k *ℤ gained rest gains c
  gained_multiple rest gains [] = omega (arith, ints)
  gained_multiple rest gains (e ∷ es) =
      let g : ℤ = gain_at rest gains e.value in
      let here : pos (k * e.weight) *ℤ g ≡ pos k *ℤ (pos e.weight *ℤ g) = mul_assoc (pos k) (pos e.weight) g in
      omega (arith, ints, here, gained_multiple rest gains es, mul_add (pos k) (pos e.weight *ℤ g) (gained rest gains es))

  values_multiple : (c : List Entry) → values (map (scaled k) c) ≡ values c
  values_multiple [] = refl
  values_multiple (e ∷ es) = ap (λ (l : List ℕ). e.value ∷ l) (values_multiple es)

  times : (n m : ℕ) → n ≡ k * m → pos n ≡ pos k *ℤ pos m
  times n m same = ap pos same

  tried_more : (j : ℕ) (c : List Entry) (z : ℤ) → IsTried j c z → IsTried j (map (scaled k) c) (pos k *ℤ z)
  tried_more j c z (xs, ascending, few, is) =
      (xs, ascending, few, ap (λ (y : ℤ). pos k *ℤ y) is ∙ sym (times (sum_by (weight_at (map (scaled k) c)) xs) (sum_by (weight_at c) xs) (tried_multiple c xs)))

  tried_less : (j : ℕ) (c : List Entry) (y : ℤ) → IsTried j (map (scaled k) c) y → (z : ℤ) × IsTried j c z × (y ≡ pos k *ℤ z)
  tried_less j c y (xs, ascending, few, is) =
      (pos (sum_by (weight_at c) xs), (xs, ascending, few, refl), is ∙ times (sum_by (weight_at (map (scaled k) c)) xs) (sum_by (weight_at c) xs) (tried_multiple c xs))

  -- what is reached grows with the weights
  reached_more : (g : GainOf TableTree) (c : List Entry) (z : ℤ) → Reaches g c z → Reaches g (map (scaled k) c) (pos k *ℤ z)
  reached_more Bayes c z h = tried_more 1 c z h
  reached_more (Tries j) c z h = tried_more j c z h
  reached_more Guessing c z (xs, order, is) = (
    xs,
    subst (λ (vs : List ℕ). IsPermutation vs xs) (sym (values_multiple c)) order,
    ap (λ (y : ℤ). pos k *ℤ y) is ∙ sym (times (cost_from (map (scaled k) c) 1 xs) (cost_from c 1 xs) (cost_multiple c 1 xs)),
  )
  reached_more (Table t) c z (a, there, is) = (a, there, ap (λ (y : ℤ). pos k *ℤ y) is ∙ sym (gained_multiple t.rest a.gains c))

  reached_less : (g : GainOf TableTree) (c : List Entry) (y : ℤ) → Reaches g (map (scaled k) c) y → (z : ℤ) × Reaches g c z × (y ≡ pos k *ℤ z)
  reached_less Bayes c y h = tried_less 1 c y h
  reached_less (Tries j) c y h = tried_less j c y h
  reached_less Guessing c y (xs, order, is) = (
    pos (cost_from c 1 xs),
    (xs, subst (λ (vs : List ℕ). IsPermutation vs xs) (values_multiple c) order, refl),
    is ∙ times (cost_from (map (scaled k) c) 1 xs) (cost_from c 1 xs) (cost_multiple c 1 xs),
  )
  reached_less (Table t) c y (a, there, is) = (gained t.rest a.gains c, (a, there, refl), is ∙ gained_multiple t.rest a.gains c)

pub once_more : (k : ℕ) (z : ℤ) → pos (suc k) *ℤ z ≡ z +ℤ pos k *ℤ z
once_more k z = omega (arith, ints, add_mul z (pos 1) (pos k))

pub order_times : (k : ℕ) (y z : ℤ) → y ≤ℤ z → (pos k *ℤ y) ≤ℤ (pos k *ℤ z)
order_times zero y z le = omega (arith, ints, zero-*ℤ y, zero-*ℤ z)
order_times (suc k) y z le = omega (arith, ints, le, order_times k y z le, once_more k y, once_more k z)

no_better_times : (g : GainOf TableTree) (k : ℕ) (y z : ℤ) → NoBetter g y z → NoBetter g (pos k *ℤ y) (pos k *ℤ z)
no_better_times Bayes k y z h = order_times k y z h
no_better_times (Tries j) k y z h = order_times k y z h
no_better_times Guessing k y z h = order_times k z y h
no_better_times (Table t) k y z h = order_times k y z h

pub scales : (g : GainOf TableTree) (c : List Entry) (k : ℕ) (z : ℤ) → IsVulnerability g c z → IsVulnerability g (map (scaled k) c) (pos k *ℤ z)
scales g c k z v = record {
  reached = reached_more k g c z v.reached;
  best = λ y h.
      let r : (x : ℤ) × Reaches g c x × (y ≡ pos k *ℤ x) = reached_less k g c y h in
      subst (λ (x : ℤ). NoBetter g x (pos k *ℤ z)) (sym r.2) (no_better_times g k r.0 z (v.best r.0 r.1));
}

-- ---- bounds

-- no number of a column of at most n values passes its sum times this
abbrev pub reach : GainOf TableTree → ℕ → ℕ
reach Guessing n = n
reach (Table t) n = greatest (gains_of t)
reach g n = 1

pub longer_total : (t m n : ℕ) → m ≤ n → t * m ≤ t * n
longer_total t m n order = grind arith

pub within : (g : GainOf TableTree) (c : List Entry) (z : ℤ) (n : ℕ) → Above 0 c → length c ≤ n → IsVulnerability g c z → unsigned_abs z ≤ total c * reach g n
within Bayes c z n above few v =
    let (xs, ascending, many, is) = v.reached in omega (arith, ap unsigned_abs is, tried_total c xs above (rises xs ascending))
within (Tries j) c z n above few v =
    let (xs, ascending, many, is) = v.reached in omega (arith, ap unsigned_abs is, tried_total c xs above (rises xs ascending))
within Guessing c z n above few v =
    let (xs, order, is) = v.reached in omega (arith, ap unsigned_abs is, cost_within c xs above order, longer_total (total c) (length c) n few)
within (Table t) c z n above few v =
    let (a, there, is) = v.reached in omega (arith, ap unsigned_abs is, action_within t a c there)

pub reach_width : (g : GainOf TableTree) (n : ℕ) → reach g n ≤ width g n
reach_width Bayes n = omega arith
reach_width (Tries k) n = omega arith
reach_width Guessing n = omega arith
reach_width (Table t) n = omega arith

pub wider : (g : GainOf TableTree) (m n : ℕ) → m ≤ n → width g m ≤ width g n
wider Bayes m n order = omega arith
wider (Tries k) m n order = omega arith
wider Guessing m n order = order
wider (Table t) m n order = omega arith

-- no number of a column passes its sum times the width
pub within_width : (g : GainOf TableTree) (c : List Entry) (z : ℤ) (n : ℕ) → Above 0 c → length c ≤ n → IsVulnerability g c z → unsigned_abs z ≤ total c * width g n
within_width g c z n above few v = omega (arith, within g c z n above few v, longer_total (total c) (reach g n) (width g n) (reach_width g n))

pub count_fits : (g : GainOf TableTree) (c : List Entry) (n room : ℕ) → IsColumn c → IsVulnerability g c (pos n) → total c * width g (length c) ≤ room → n ≤ room
count_fits g c n room is v fits = omega (arith, within_width g c (pos n) (length c) (above_column c is) (omega arith) v, fits)
