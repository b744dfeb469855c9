-- Composed channels cell by cell: the matrix product, the independent product, and its marginals.
use Rattle.std.proofs.Common.{◌≡◌, ℕ, zero, suc, ◌+◌, ◌*◌, ◌<◌, List, [], ◌∷◌, length, map, flat_map, get_or, sum_by, slice_index, refl, sym, ap, ◌∙◌, arith}
use Rattle.std.specs.List.{range_with_len}
use Rattle.std.proofs.Math.ListN.{length-map}
use Rattle.std.proofs.lemmas.List.{get_or-append-add, get_or_append_left, length-append}
use Rattle.std.proofs.lemmas.List.FromFn.{get_or-map-range_with_len}
use Rattle.std.proofs.lemmas.List.Sums.{sum_by-cons}
use Rattle.kf_capacity.specs.Compositions.{through}
use Rattle.kf_capacity.specs.Composing.{products}
use Rattle.kf_capacity.specs.Vulnerabilities.{sum_to}
use Rattle.kf_meaning.specs.Channels.{CascadeIsProduct, FirstMarginal, ParallelHasPairs, ParallelIsIndependent, SecondMarginal, entry}

-- ---- sums of a function

sum_first : (n : ℕ) (f : ℕ → ℕ) → sum_to (suc n) f ≡ f 0 + sum_to n (λ j. f (suc j))
sum_first zero f = omega arith
sum_first (suc n) f = omega (arith, sum_first n f)

sum_zero : (n : ℕ) (f : ℕ → ℕ) → ((j : ℕ) → f j ≡ 0) → sum_to n f ≡ 0
sum_zero zero f none = refl
sum_zero (suc n) f none = omega (arith, sum_zero n f none, none n)

sum_equal : (n : ℕ) (f g : ℕ → ℕ) → ((j : ℕ) → j < n → f j ≡ g j) → sum_to n f ≡ sum_to n g
sum_equal zero f g same = refl
sum_equal (suc n) f g same = omega (arith, sum_equal n f g (λ j less. same j (omega (arith, less))), same n (omega arith))

sum_factor : (n m : ℕ) (f : ℕ → ℕ) → sum_to n (λ j. m * f j) ≡ m * sum_to n f
sum_factor zero m f = omega arith
sum_factor (suc n) m f = omega (arith, sum_factor n m f)

sum_listed : (f : List ℕ → ℕ) (xs : List (List ℕ)) → sum_to (length xs) (λ j. f (get_or xs j [])) ≡ sum_by f xs
sum_listed f [] = refl
sum_listed f (x ∷ xs) = omega (arith, sum_first (length xs) (λ j. f (get_or (x ∷ xs) j [])), sum_listed f xs, sum_by-cons f x xs)

-- ---- one after the other

through_sum : (columns : List (List ℕ)) (places column : List ℕ) (i : ℕ) → length places ≡ length columns
    → through columns places column i ≡ sum_to (length columns) (λ j. slice_index (get_or columns j []) i * slice_index column (slice_index places j))
through_sum [] places column i many = refl
through_sum (first ∷ others) [] column i many = absurd (omega (arith, many))
through_sum (first ∷ others) (place ∷ places) column i many =
    omega (
      arith,
      through_sum others places column i (omega (arith, many)),
      sum_first (length others) (λ j. slice_index (get_or (first ∷ others) j []) i * slice_index column (slice_index (place ∷ places) j)),
    )

-- a number of a mapped column, also beyond the last
mapped_entry : (f : List ℕ → List ℕ) (at : List ℕ → ℕ) (i : ℕ) → ((column : List ℕ) → slice_index (f column) i ≡ at column) → at [] ≡ 0
    → (columns : List (List ℕ)) (k : ℕ) → slice_index (get_or (map f columns) k []) i ≡ at (get_or columns k [])
mapped_entry f at i is none [] k = sym none
mapped_entry f at i is none (column ∷ columns) zero = is column
mapped_entry f at i is none (column ∷ columns) (suc k) = mapped_entry f at i is none columns k

pub cascade_is_product : CascadeIsProduct
cascade_is_product g h places i k many below =
    mapped_entry (λ column. map (through g.columns places column) (range_with_len 0 g.rows))
    (λ column. sum_to (length g.columns) (λ j. entry g i j * slice_index column (slice_index places j))) i
    (λ column.
    get_or-map-range_with_len (through g.columns places column) 0 g.rows i i 0 below (omega arith) ∙ through_sum g.columns places column i many)
    (sum_zero (length g.columns) (λ j. entry g i j * slice_index [] (slice_index places j)) (λ j. omega arith)) h.columns k

-- ---- side by side

product_at : (ms ns : List ℕ) (i : ℕ) → slice_index (products ms ns) i ≡ slice_index ms i * slice_index ns i
product_at [] ns i = omega arith
product_at (m ∷ ms) [] i = omega arith
product_at (m ∷ ms) (n ∷ ns) zero = refl
product_at (m ∷ ms) (n ∷ ns) (suc i) = product_at ms ns i

module _ (seconds : List (List ℕ)) (i : ℕ) where
  abbrev pairs : List (List ℕ) → List (List ℕ)
  pairs firsts = flat_map (λ column. map (products column) seconds) firsts

  pair_at : (first : List ℕ) (k : ℕ) → slice_index (get_or (map (products first) seconds) k []) i ≡ slice_index first i * slice_index (get_or seconds k []) i
  pair_at first k = mapped_entry (products first) (λ second. slice_index first i * slice_index second i) i (λ second. product_at first second i) (omega arith) seconds k

  pairs_at : (firsts : List (List ℕ)) (j k : ℕ) → k < length seconds
      → slice_index (get_or (pairs firsts) (j * length seconds + k) []) i ≡ slice_index (get_or firsts j []) i * slice_index (get_or seconds k []) i
  pairs_at [] j k within = omega arith
  pairs_at (first ∷ firsts) zero k within =
      let long : length (map (products first) seconds) ≡ length seconds = length-map seconds (products first) in
      let at : zero * length seconds + k ≡ k = omega arith in
      ap (λ n. slice_index (get_or (pairs (first ∷ firsts)) n []) i) at
      ∙ ap (λ column. slice_index column i) (get_or_append_left (map (products first) seconds) (pairs firsts) [] k (omega (arith, long, within)))
      ∙ pair_at first k
  pairs_at (first ∷ firsts) (suc j) k within =
      let here : List (List ℕ) = map (products first) seconds in
      let long : length here ≡ length seconds = length-map seconds (products first) in
      let at : suc j * length seconds + k ≡ length here + (j * length seconds + k) = omega (arith, long) in
      ap (λ n. slice_index (get_or (pairs (first ∷ firsts)) n []) i) at
      ∙ ap (λ column. slice_index column i) (get_or-append-add here (pairs firsts) (j * length seconds + k) [])
      ∙ pairs_at firsts j k within

pub parallel_is_independent : ParallelIsIndependent
parallel_is_independent g h i j k within = pairs_at h.columns i g.columns j k within

pairs_many : (seconds firsts : List (List ℕ)) → length (pairs seconds 0 firsts) ≡ length firsts * length seconds
pairs_many seconds [] = omega arith
pairs_many seconds (first ∷ firsts) =
    let long : length (map (products first) seconds) ≡ length seconds = length-map seconds (products first) in
    omega (arith, length-append (map (products first) seconds) (pairs seconds 0 firsts), long, pairs_many seconds firsts)

pub parallel_has_pairs : ParallelHasPairs
parallel_has_pairs g h = pairs_many h.columns g.columns

-- ---- marginals

pub first_marginal : FirstMarginal
first_marginal g h i j is below =
    let n : ℕ = length h.columns in
    sum_equal n (λ k. slice_index (get_or (pairs h.columns i g.columns) (j * n + k) []) i) (λ k. entry g i j * entry h i k)
    (λ k within. pairs_at h.columns i g.columns j k within)
    ∙ sum_factor n (entry g i j) (entry h i)
    ∙ ap (λ m. entry g i j * m) (sum_listed (λ column. slice_index column i) h.columns ∙ is.sums i below)

pub second_marginal : SecondMarginal
second_marginal g h i k is below within =
    let n : ℕ = length h.columns in
    let m : ℕ = length g.columns in
    let sums : sum_to m (λ j. entry h i k * entry g i j) ≡ entry h i k * g.over =
    sum_factor m (entry h i k) (λ j. entry g i j) ∙ ap (λ s. entry h i k * s) (sum_listed (λ column. slice_index column i) g.columns ∙ is.sums i below) in
    let equal : sum_to m (λ j. slice_index (get_or (pairs h.columns i g.columns) (j * n + k) []) i) ≡ sum_to m (λ j. entry h i k * entry g i j) =
    sum_equal m (λ j. slice_index (get_or (pairs h.columns i g.columns) (j * n + k) []) i) (λ j. entry h i k * entry g i j)
    (λ j less. let at = pairs_at h.columns i g.columns j k within in omega (arith, at)) in
    omega (arith, equal, sums)
