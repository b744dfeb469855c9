-- The vulnerability of weights is convex, so what is seen multiplies it by no more than the capacity; one guess at equal weights meets that.
use Rattle.std.proofs.Common.{◌≡◌, ◌≢◌, ℕ, zero, suc, ◌+◌, ◌*◌, ◌<◌, ◌≤◌, List, length, map, refl, sym, ◌∙◌, ap, arith, ⊎_elim, if◌then◌else◌, eq-eqb}
use Rattle.std.specs.List.{range_with_len}
use Rattle.std.proofs.Math.Nat.{mul-le-mul_right}
use Rattle.std.proofs.lemmas.Bool.{cases_lt, ne_eqb}
use Rattle.std.proofs.lemmas.List.FromFn.{fill_by_all}
use Rattle.std.proofs.lemmas.List.Sums.{sum_by-le-sum_by}
use Rattle.kf_capacity.specs.Grids.{capacity_of}
use Rattle.kf_capacity.specs.Laws.{CapacityBounds, CapacityIsMet}
use Rattle.kf_capacity.specs.Vulnerabilities.{gained, vulnerability, together, guess, guesses, uniform, greatest}
use Rattle.kf_capacity.proofs.Sums.{sum_same, sum_times, at_most_greatest, greatest_scaled, greatest_both}

-- ---- convexity

module _ (w v : ℕ → ℕ) where
  gained_scaled : (k rows : ℕ) → ((x : ℕ) → x < rows → w x ≤ k * v x) → (action : ℕ → ℕ) → gained rows w action ≤ k * gained rows v action
  gained_scaled k zero within action = omega arith
  gained_scaled k (suc n) within action =
      omega (arith, mul-le-mul_right (action n) (within n (omega arith)), gained_scaled k n (λ x below. within x (omega (arith, below))) action)

  gained_both : (rows : ℕ) (action : ℕ → ℕ) → gained rows (λ x. w x + v x) action ≡ gained rows w action + gained rows v action
  gained_both zero action = refl
  gained_both (suc n) action = omega (arith, gained_both n action)

  -- weights that are at most k times others are worth at most k times as much
  pub worth_scaled : (k rows : ℕ) (actions : List (ℕ → ℕ)) → ((x : ℕ) → x < rows → w x ≤ k * v x)
      → vulnerability rows actions w ≤ k * vulnerability rows actions v
  worth_scaled k rows actions within = greatest_scaled (gained rows w) (gained rows v) k (gained_scaled k rows within) actions

  -- weights together are worth no more than one by one
  pub worth_both : (rows : ℕ) (actions : List (ℕ → ℕ))
      → vulnerability rows actions (λ x. w x + v x) ≤ vulnerability rows actions w + vulnerability rows actions v
  worth_both rows actions =
      let split = greatest_scaled (gained rows (λ x. w x + v x)) (λ a. gained rows w a + gained rows v a) 1 (λ a. omega (arith, gained_both rows a)) actions in
      omega (arith, split, greatest_both (gained rows w) (gained rows v) actions)

-- ---- the capacity bounds it

column_worth : (rows : ℕ) (actions : List (ℕ → ℕ)) (prior : ℕ → ℕ) (column : List ℕ)
    → vulnerability rows actions (together prior column) ≤ vulnerability rows actions prior * greatest column
column_worth rows actions prior column =
    let most = worth_scaled (together prior column) prior (greatest column) rows actions
    (λ x below. omega (arith, mul-le-mul_right (prior x) (at_most_greatest column x))) in
    omega (arith, most)

pub capacity_bounds : CapacityBounds
capacity_bounds g actions prior =
    let worth : List ℕ → ℕ = λ column. vulnerability g.rows actions (together prior column) in
    omega (
      arith,
      sum_by-le-sum_by worth (λ column. vulnerability g.rows actions prior * greatest column) g.columns (column_worth g.rows actions prior),
      sum_times (vulnerability g.rows actions prior) greatest g.columns,
    )

-- ---- one guess at equal weights

right : (b : ℕ) → guess b b ≡ 1
right b = ap (λ t. if t then 1 else 0) (eq-eqb b b refl)

wrong : (b x : ℕ) → b ≢ x → guess b x ≡ 0
wrong b x apart = ap (λ t. if t then 1 else 0) (ne_eqb b x apart)

module _ (w : ℕ → ℕ) where
  missed : (secret rows : ℕ) → rows ≤ secret → gained rows w (guess secret) ≡ 0
  missed secret zero past = refl
  missed secret (suc n) past =
      omega (arith, missed secret n (omega arith), ap (λ k. w n * k) (wrong secret n (λ same. omega (arith, same, past))))

  -- a guess gains the weight of its secret
  guessed : (secret rows : ℕ) → secret < rows → gained rows w (guess secret) ≡ w secret
  guessed secret zero below = absurd (omega arith)
  guessed secret (suc n) below =
      ⊎_elim
      (λ (less : secret < n). omega (arith, guessed secret n less, ap (λ k. w n * k) (wrong secret n (λ same. omega (arith, same, less)))))
      (λ (least : n ≤ secret).
      let same : n ≡ secret = omega arith in
      omega (arith, missed secret n least, ap (λ k. w k * guess secret k) same, ap (λ k. w secret * k) (right secret)))
      (cases_lt secret n)

  best_from : (rows first n : ℕ) → first + n ≤ rows
      → greatest (map (gained rows w) (map guess (range_with_len first n))) ≡ greatest (map w (range_with_len first n))
  best_from rows first zero within = refl
  best_from rows first (suc n) within = omega (arith, guessed first rows (omega arith), best_from rows (first + 1) n (omega arith))

  -- the best guess gains the greatest weight
  pub best_guess : (rows : ℕ) → vulnerability rows (guesses rows) w ≡ greatest (map w (range_with_len 0 rows))
  best_guess rows = best_from rows 0 rows (omega arith)

uniform_worth : (first n : ℕ) → 0 < n → greatest (map uniform (range_with_len first n)) ≡ 1
uniform_worth first zero some = absurd (omega arith)
uniform_worth first (suc zero) some = refl
uniform_worth first (suc (suc n)) some = omega (arith, uniform_worth (first + 1) (suc n) (omega arith))

column_met : (rows : ℕ) (column : List ℕ) → length column ≡ rows → vulnerability rows (guesses rows) (together uniform column) ≡ greatest column
column_met rows column long =
    best_guess (together uniform column) rows
    ∙ ap greatest (sym (fill_by_all (together uniform column) column rows 0 long (λ k below. omega arith)))

pub capacity_is_met : CapacityIsMet
capacity_is_met g some is =
    let worth : List ℕ → ℕ = λ column. vulnerability g.rows (guesses g.rows) (together uniform column) in
    let one : vulnerability g.rows (guesses g.rows) uniform ≡ 1 = best_guess uniform g.rows ∙ uniform_worth 0 g.rows some in
    omega (arith, ap (λ k. k * capacity_of g) one, sum_same worth greatest g.columns (λ k d within. column_met g.rows _ (is.long k d within)))
