-- What passes a first grid and then a second one: the numbers of the second in the row of a place sum to its denominator.
use Rattle.std.proofs.Common.{◌≡◌, ℕ, ◌+◌, ◌*◌, ◌<◌, ◌≤◌, List, [], ◌∷◌, All, length, map, sum_by, refl, ◌∙◌, ap, arith, slice_index}
use Rattle.std.specs.List.{range_with_len}
use Rattle.std.proofs.Math.Nat.{mul-le-mul_left, mul-le-mul_right}
use Rattle.std.proofs.lemmas.List.Elements.{All-head, All-tail, All-map}
use Rattle.std.proofs.lemmas.List.FromFn.{length-map-range_with_len, get_or-map-range_with_len}
use Rattle.std.proofs.lemmas.List.Sums.{sum_by-cons, sum_by-le-sum_by}
use Rattle.kf_frac.proofs.CommonMultiples.{product_positive}
use Rattle.kf_hyper.proofs.Averaging.{sum-mapped}
use Rattle.kf_capacity.specs.Grids.{GridTree}
use Rattle.kf_capacity.specs.Compositions.{through}
use Rattle.kf_capacity.specs.Laws.{Fit, NothingIsGained, CascadeIsBounded, CascadeIsStochastic}
use Rattle.kf_capacity.specs.Shapes.{IsStochastic}
use Rattle.kf_capacity.specs.Vulnerabilities.{vulnerability, together, greatest}
use Rattle.kf_capacity.proofs.Sums.{sum_none, sum_same, sum_both, sum_times, at_most_greatest, greatest_within}
use Rattle.kf_capacity.proofs.Worth.{worth_scaled, worth_both}

-- a number for each column of the first grid, times the number of a column of the second at its place, summed
abbrev passed : (List ℕ → ℕ) → List (List ℕ) → List ℕ → List ℕ → ℕ
passed f [] places column = 0
passed f (first ∷ others) [] column = 0
passed f (first ∷ others) (place ∷ places) column = f first * slice_index column place + passed f others places column

through_is : (columns : List (List ℕ)) (places column : List ℕ) (i : ℕ)
    → through columns places column i ≡ passed (λ first. slice_index first i) columns places column
through_is [] places column i = refl
through_is (first ∷ others) [] column i = refl
through_is (first ∷ others) (place ∷ places) column i = ap (λ n. slice_index first i * slice_index column place + n) (through_is others places column i)

passed_less : (f h : List ℕ → ℕ) → ((c : List ℕ) → f c ≤ h c) → (columns : List (List ℕ)) (places column : List ℕ)
    → passed f columns places column ≤ passed h columns places column
passed_less f h less [] places column = omega arith
passed_less f h less (first ∷ others) [] column = omega arith
passed_less f h less (first ∷ others) (place ∷ places) column =
    omega (arith, mul-le-mul_right (slice_index column place) (less first), passed_less f h less others places column)

module _ (f : List ℕ → ℕ) where
  passed_within : (columns : List (List ℕ)) (places column : List ℕ) → passed f columns places column ≤ sum_by f columns * greatest column
  passed_within [] places column = omega arith
  passed_within (first ∷ others) [] column = omega arith
  passed_within (first ∷ others) (place ∷ places) column =
      omega (
        arith,
        mul-le-mul_left (f first) (at_most_greatest column place),
        passed_within others places column,
        ap (λ n. n * greatest column) (sum_by-cons f first others),
      )

  -- over all columns of the second grid
  passed_all : (rows over : ℕ) (behind : List (List ℕ)) → ((i : ℕ) → i < rows → sum_by (λ column. slice_index column i) behind ≡ over)
      → (columns : List (List ℕ)) (places : List ℕ) → length places ≡ length columns → All (λ place. place < rows) places
      → sum_by (passed f columns places) behind ≡ sum_by f columns * over
  passed_all rows over behind sums [] places many within = omega (arith, sum_none behind)
  passed_all rows over behind sums (first ∷ others) [] many within = absurd (omega (arith, many))
  passed_all rows over behind sums (first ∷ others) (place ∷ places) many within =
      let here : List ℕ → ℕ = λ column. f first * slice_index column place in
      let at : List ℕ → ℕ = λ column. slice_index column place in
      let below : place < rows = All-head (λ place. place < rows) place places within in
      let rest = passed_all rows over behind sums others places (omega (arith, many)) (All-tail (λ place. place < rows) place places within) in
      omega (
        arith,
        sum_both here (passed f others places) behind,
        sum_times (f first) at behind,
        ap (λ n. f first * n) (sums place below),
        rest,
        ap (λ n. n * over) (sum_by-cons f first others),
      )

-- ---- the numbers of each secret

-- a column of the cascade
abbrev passing : GridTree → List ℕ → List ℕ → List ℕ
passing g places column = map (through g.columns places column) (range_with_len 0 g.rows)

module _ (g : GridTree) (places column : List ℕ) where
  passing_long : length (passing g places column) ≡ g.rows
  passing_long = length-map-range_with_len (through g.columns places column) 0 g.rows

  through_at : (i : ℕ) → i < g.rows → slice_index (passing g places column) i ≡ through g.columns places column i
  through_at i below = get_or-map-range_with_len (through g.columns places column) 0 g.rows i i 0 below (omega arith)

  passing_at : (i : ℕ) → i < g.rows → slice_index (passing g places column) i ≡ passed (λ first. slice_index first i) g.columns places column
  passing_at i below = through_at i below ∙ through_is g.columns places column i

module _ (g h : GridTree) (places : List ℕ) (fit : Fit g h places) where
  all_passed : (f : List ℕ → ℕ) → sum_by (passed f g.columns places) h.columns ≡ sum_by f g.columns * h.over
  all_passed f = passed_all f h.rows h.over h.columns fit.second.sums g.columns places fit.many fit.within

  passing_sum : (i : ℕ) → i < g.rows → sum_by (λ column. slice_index column i) (map (passing g places) h.columns) ≡ g.over * h.over
  passing_sum i below =
      sum-mapped (passing g places) (λ column. slice_index column i) h.columns
      ∙ sum_same (λ column. slice_index (passing g places column) i) (passed (λ first. slice_index first i) g.columns places) h.columns
      (λ k d within. passing_at g places _ i below)
      ∙ all_passed (λ first. slice_index first i)
      ∙ ap (λ n. n * h.over) (fit.first.sums i below)

  -- a bound on each column of the cascade bounds its sum
  passing_less : (f : List ℕ → ℕ) → ((column : List ℕ) → f (passing g places column) ≤ passed f g.columns places column)
      → sum_by f (map (passing g places) h.columns) ≤ sum_by f g.columns * h.over
  passing_less f less =
      omega (
        arith,
        sum-mapped (passing g places) f h.columns,
        sum_by-le-sum_by (λ column. f (passing g places column)) (passed f g.columns places) h.columns less,
        all_passed f,
      )

pub cascade_is_stochastic : CascadeIsStochastic
cascade_is_stochastic g h places fit = record {
  some = product_positive g.over h.over fit.first.some fit.second.some;
  long = All-map (λ column. length column ≡ g.rows) (passing g places) h.columns (λ k d within. passing_long g places _);
  sums = passing_sum g h places fit;
}

-- ---- nothing is gained

module _ (rows : ℕ) (actions : List (ℕ → ℕ)) (prior : ℕ → ℕ) where
  abbrev worth : List ℕ → ℕ
  worth column = vulnerability rows actions (together prior column)

  no_worth : (weights : ℕ → ℕ) → ((x : ℕ) → weights x ≡ 0) → vulnerability rows actions weights ≤ 0
  no_worth weights none = omega (arith, worth_scaled weights prior 0 rows actions (λ x below. omega (arith, none x)))

  -- behind the first grid a column of the second is worth no more than the columns in front of it are, each times its number
  passed_worth : (columns : List (List ℕ)) (places column : List ℕ)
      → vulnerability rows actions (λ x. prior x * through columns places column x) ≤ passed worth columns places column
  passed_worth [] places column = no_worth (λ x. prior x * through [] places column x) (λ x. omega arith)
  passed_worth (first ∷ others) [] column = no_worth (λ x. prior x * through (first ∷ others) [] column x) (λ x. omega arith)
  passed_worth (first ∷ others) (place ∷ places) column =
      let whole : ℕ → ℕ = λ x. prior x * through (first ∷ others) (place ∷ places) column x in
      let here : ℕ → ℕ = λ x. prior x * (slice_index first x * slice_index column place) in
      let rest : ℕ → ℕ = λ x. prior x * through others places column x in
      omega (
        arith,
        worth_scaled whole (λ x. here x + rest x) 1 rows actions (λ x below. omega arith),
        worth_both here rest rows actions,
        worth_scaled here (together prior first) (slice_index column place) rows actions (λ x below. omega arith),
        passed_worth others places column,
      )

passing_worth : (g : GridTree) (actions : List (ℕ → ℕ)) (prior : ℕ → ℕ) (places column : List ℕ)
    → worth g.rows actions prior (passing g places column) ≤ passed (worth g.rows actions prior) g.columns places column
passing_worth g actions prior places column =
    let seen : ℕ → ℕ = together prior (passing g places column) in
    let shown : ℕ → ℕ = λ x. prior x * through g.columns places column x in
    omega (
      arith,
      worth_scaled seen shown 1 g.rows actions (λ x below. omega (arith, ap (λ n. prior x * n) (through_at g places column x below))),
      passed_worth g.rows actions prior g.columns places column,
    )

pub nothing_is_gained : NothingIsGained
nothing_is_gained g h places actions prior fit = passing_less g h places fit (worth g.rows actions prior) (passing_worth g actions prior places)

-- ---- the capacity is at most each of the two

passing_greatest : (g : GridTree) (places column : List ℕ) → greatest (passing g places column) ≤ passed greatest g.columns places column
passing_greatest g places column =
    greatest_within (passing g places column) (passed greatest g.columns places column)
    (λ i within.
    let below : i < g.rows = omega (arith, within, passing_long g places column) in
    omega (arith, passing_at g places column i below, passed_less (λ first. slice_index first i) greatest (λ c. at_most_greatest c i) g.columns places column))

passing_within : (g : GridTree) (places column : List ℕ) → IsStochastic g → greatest (passing g places column) ≤ g.over * greatest column
passing_within g places column is =
    greatest_within (passing g places column) (g.over * greatest column)
    (λ i within.
    let below : i < g.rows = omega (arith, within, passing_long g places column) in
    omega (
      arith,
      passing_at g places column i below,
      passed_within (λ first. slice_index first i) g.columns places column,
      ap (λ n. n * greatest column) (is.sums i below),
    ))

pub cascade_is_bounded : CascadeIsBounded
cascade_is_bounded g h places fit = (
  passing_less g h places fit greatest (passing_greatest g places),
  omega (
    arith,
    sum-mapped (passing g places) greatest h.columns,
    sum_by-le-sum_by (λ column. greatest (passing g places column)) (λ column. g.over * greatest column) h.columns
        (λ column. passing_within g places column fit.first),
    sum_times g.over greatest h.columns,
  ),
)
