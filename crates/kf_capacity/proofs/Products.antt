-- Grids side by side: their sums multiply, and their greatest numbers come to no more than the product.
use Rattle.std.proofs.Common.{◌≡◌, ℕ, zero, suc, ◌*◌, ◌≤◌, List, [], ◌∷◌, All, length, map, flat_map, sum_by, refl, sym, ◌∙◌, ap, subst, arith, slice_index}
use Rattle.std.proofs.Math.Nat.{mul-le-mul, le-max_left, le-max_right}
use Rattle.std.proofs.lemmas.List.Elements.{All-nil, All-head, All-tail, All-map, All-append}
use Rattle.std.proofs.lemmas.List.Sums.{sum_by-le-sum_by}
use Rattle.kf_frac.proofs.CommonMultiples.{product_positive}
use Rattle.kf_hyper.proofs.Averaging.{sum-mapped}
use Rattle.kf_capacity.specs.Composing.{products}
use Rattle.kf_capacity.specs.Laws.{ParallelIsBounded, ParallelIsStochastic}
use Rattle.kf_capacity.proofs.Sums.{sum_same, sum_times, sum_flat}
use Rattle.kf_capacity.specs.Vulnerabilities.{greatest}

-- ---- two columns

products_at : (ms ns : List ℕ) (i : ℕ) → slice_index (products ms ns) i ≡ slice_index ms i * slice_index ns i
products_at [] ns i = omega arith
products_at (m ∷ ms) [] i = omega arith
products_at (m ∷ ms) (n ∷ ns) zero = refl
products_at (m ∷ ms) (n ∷ ns) (suc i) = products_at ms ns i

products_long : (ms ns : List ℕ) → length ms ≡ length ns → length (products ms ns) ≡ length ms
products_long [] ns same = refl
products_long (m ∷ ms) [] same = absurd (omega (arith, same))
products_long (m ∷ ms) (n ∷ ns) same = omega (arith, products_long ms ns (omega (arith, same)))

products_within : (ms ns : List ℕ) → greatest (products ms ns) ≤ greatest ms * greatest ns
products_within [] ns = omega arith
products_within (m ∷ ms) [] = omega arith
products_within (m ∷ ms) (n ∷ ns) =
    omega (
      arith,
      products_within ms ns,
      mul-le-mul (le-max_left m (greatest ms)) (le-max_left n (greatest ns)),
      mul-le-mul (le-max_right m (greatest ms)) (le-max_right n (greatest ns)),
    )

-- ---- all pairs of columns

-- each column of the first with each of the second
abbrev pairs : List (List ℕ) → List (List ℕ) → List (List ℕ)
pairs firsts seconds = flat_map (λ column. map (products column) seconds) firsts

module _ (f : List ℕ → ℕ) (firsts seconds : List (List ℕ)) where
  pairs_sum : sum_by f (pairs firsts seconds) ≡ sum_by (λ first. sum_by (λ second. f (products first second)) seconds) firsts
  pairs_sum =
      sum_flat f (λ column. map (products column) seconds) firsts
      ∙ sum_same (λ first. sum_by f (map (products first) seconds)) (λ first. sum_by (λ second. f (products first second)) seconds) firsts
      (λ k d within. sum-mapped (products _) f seconds)

  product_sum : sum_by (λ first. f first * sum_by f seconds) firsts ≡ sum_by f firsts * sum_by f seconds
  product_sum =
      let rest : ℕ = sum_by f seconds in
      omega (arith, sum_same (λ first. f first * rest) (λ first. rest * f first) firsts (λ k d within. omega arith), sum_times rest f firsts)

pub parallel_is_bounded : ParallelIsBounded
parallel_is_bounded g h =
    omega (
      arith,
      pairs_sum greatest g.columns h.columns,
      sum_by-le-sum_by (λ first. sum_by (λ second. greatest (products first second)) h.columns) (λ first. greatest first * sum_by greatest h.columns) g.columns
          (λ first. omega (
            arith,
            sum_by-le-sum_by (λ second. greatest (products first second)) (λ second. greatest first * greatest second) h.columns (products_within first),
            sum_times (greatest first) greatest h.columns,
          )),
      product_sum greatest g.columns h.columns,
    )

pairs_long : (rows : ℕ) (firsts seconds : List (List ℕ)) → All (λ column. length column ≡ rows) firsts → All (λ column. length column ≡ rows) seconds
    → All (λ column. length column ≡ rows) (pairs firsts seconds)
pairs_long rows [] seconds long behind = All-nil (λ column. length column ≡ rows)
pairs_long rows (first ∷ firsts) seconds long behind =
    let is : length first ≡ rows = All-head (λ column. length column ≡ rows) first firsts long in
    All-append (λ column. length column ≡ rows) (map (products first) seconds) (pairs firsts seconds)
    (All-map (λ column. length column ≡ rows) (products first) seconds
    (λ k d within. products_long first _ (is ∙ sym (behind k d within)) ∙ is))
    (pairs_long rows firsts seconds (All-tail (λ column. length column ≡ rows) first firsts long) behind)

pairs_at : (i : ℕ) (firsts seconds : List (List ℕ))
    → sum_by (λ column. slice_index column i) (pairs firsts seconds)
    ≡ sum_by (λ column. slice_index column i) firsts * sum_by (λ column. slice_index column i) seconds
pairs_at i firsts seconds =
    let at : List ℕ → ℕ = λ column. slice_index column i in
    pairs_sum at firsts seconds
    ∙ sum_same (λ first. sum_by (λ second. at (products first second)) seconds) (λ first. at first * sum_by at seconds) firsts
    (λ k d within.
    sum_same (λ second. at (products _ second)) (λ second. at _ * at second) seconds (λ j e inside. products_at _ _ i)
    ∙ sum_times (at _) at seconds)
    ∙ product_sum at firsts seconds

pub parallel_is_stochastic : ParallelIsStochastic
parallel_is_stochastic g h same first second = record {
  some = product_positive g.over h.over first.some second.some;
  long = pairs_long g.rows g.columns h.columns first.long (subst (λ rows. All (λ column. length column ≡ rows) h.columns) (sym same) second.long);
  sums = λ i below. pairs_at i g.columns h.columns ∙ ap (λ n. n * sum_by (λ column. slice_index column i) h.columns) (first.sums i below)
      ∙ ap (λ n. g.over * n) (second.sums i (omega (arith, same, below)));
}
