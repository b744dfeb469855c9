-- A choice between grids: both are brought to the least common multiple of their denominators, and weigh as they are chosen.
use Rattle.std.proofs.Common.{◌≡◌, ℕ, zero, suc, ◌+◌, ◌-◌, ◌*◌, ◌/◌, List, [], ◌∷◌, All, length, map, sum_by, sym, ◌∙◌, ap, subst, arith, slice_index}
use Rattle.std.proofs.Math.Nat.{mul-div_cancel'}
use Rattle.std.proofs.lemmas.List.{length-map}
use Rattle.std.proofs.lemmas.List.Elements.{All-map, All-append}
use Rattle.std.proofs.lemmas.List.Sums.{sum_by-append}
use Rattle.kf_frac.specs.Divisors.{lcm_of}
use Rattle.kf_frac.specs.Laws.{IsLcm}
use Rattle.kf_frac.proofs.CommonMultiples.{lcm_is, product_positive}
use Rattle.kf_hyper.proofs.Averaging.{sum-mapped}
use Rattle.kf_capacity.specs.Grids.{GridTree}
use Rattle.kf_capacity.specs.Compositions.{times, choice_grid}
use Rattle.kf_capacity.specs.Laws.{ChoiceIsMean, ChoiceIsStochastic}
use Rattle.kf_capacity.specs.Shapes.{IsStochastic}
use Rattle.kf_capacity.proofs.Sums.{sum_same, sum_times, max_times}
use Rattle.kf_capacity.specs.Vulnerabilities.{greatest}

-- ---- a column times a number

times_at : (k : ℕ) (ns : List ℕ) (i : ℕ) → slice_index (times k ns) i ≡ k * slice_index ns i
times_at k [] i = omega arith
times_at k (n ∷ ns) zero = omega arith
times_at k (n ∷ ns) (suc i) = times_at k ns i

times_greatest : (k : ℕ) (ns : List ℕ) → greatest (times k ns) ≡ k * greatest ns
times_greatest k [] = omega arith
times_greatest k (n ∷ ns) = omega (arith, times_greatest k ns, max_times n (greatest ns) k)

-- what grows with its columns grows so over both grids
module _ (f : List ℕ → ℕ) (grows : (k : ℕ) (ns : List ℕ) → f (times k ns) ≡ k * f ns) where
  times_sum : (k : ℕ) (columns : List (List ℕ)) → sum_by f (map (times k) columns) ≡ k * sum_by f columns
  times_sum k columns =
      sum-mapped (times k) f columns
      ∙ sum_same (λ column. f (times k column)) (λ column. k * f column) columns (λ j d within. grows k _)
      ∙ sum_times k f columns

  choice_sum : (num den : ℕ) (g h : GridTree)
      → sum_by f (choice_grid num den g h).columns
      ≡ lcm_of g.over h.over / g.over * num * sum_by f g.columns + lcm_of g.over h.over / h.over * (den - num) * sum_by f h.columns
  choice_sum num den g h =
      let common : ℕ = lcm_of g.over h.over in
      omega (
        arith,
        sum_by-append f (map (times (common / g.over * num)) g.columns) (map (times (common / h.over * (den - num))) h.columns),
        times_sum (common / g.over * num) g.columns,
        times_sum (common / h.over * (den - num)) h.columns,
      )

-- ---- the mean

-- x / a and y / b over their common multiple m = p * a = q * b
mean : (a b m p q num other den x y : ℕ) → a * p ≡ m → b * q ≡ m
    → (p * num * x + q * other * y) * (a * b * den) ≡ (num * (x * b) + other * (y * a)) * (m * den)
mean a b m p q num other den x y left right = omega (arith, ap (λ n. num * x * b * den * n) left, ap (λ n. other * y * a * den * n) right)

module _ (g h : GridTree) (first : IsStochastic g) (second : IsStochastic h) where
  common_is : IsLcm g.over h.over (lcm_of g.over h.over)
  common_is = lcm_is g.over h.over first.some second.some

  left_quotient : g.over * (lcm_of g.over h.over / g.over) ≡ lcm_of g.over h.over
  left_quotient = mul-div_cancel' g.over common_is.left

  right_quotient : h.over * (lcm_of g.over h.over / h.over) ≡ lcm_of g.over h.over
  right_quotient = mul-div_cancel' h.over common_is.right

pub choice_is_mean : ChoiceIsMean
choice_is_mean num den g h less first second =
    let common : ℕ = lcm_of g.over h.over in
    ap (λ n. n * (g.over * h.over * den)) (choice_sum greatest times_greatest num den g h)
    ∙ mean g.over h.over common (common / g.over) (common / h.over) num (den - num) den (sum_by greatest g.columns) (sum_by greatest h.columns)
    (left_quotient g h first second) (right_quotient g h first second)

-- ---- the numbers of each secret

whole : (a b m p q num other den : ℕ) → num + other ≡ den → a * p ≡ m → b * q ≡ m → p * num * a + q * other * b ≡ m * den
whole a b m p q num other den split left right = omega (arith, ap (λ n. num * n) left, ap (λ n. other * n) right, ap (λ n. m * n) split)

times_long : (k rows : ℕ) (columns : List (List ℕ)) → All (λ column. length column ≡ rows) columns
    → All (λ column. length column ≡ rows) (map (times k) columns)
times_long k rows columns long =
    All-map (λ column. length column ≡ rows) (times k) columns (λ j d within. length-map _ (λ n. n * k) ∙ long j d within)

pub choice_is_stochastic : ChoiceIsStochastic
choice_is_stochastic num den g h some less same first second =
    let common : ℕ = lcm_of g.over h.over in
    record {
      some = product_positive common den (common_is g h first second).positive some;
      long =
          All-append (λ column. length column ≡ g.rows)
          (map (times (common / g.over * num)) g.columns) (map (times (common / h.over * (den - num))) h.columns)
          (times_long (common / g.over * num) g.rows g.columns first.long)
          (times_long (common / h.over * (den - num)) g.rows h.columns (subst (λ rows. All (λ column. length column ≡ rows) h.columns) (sym same) second.long));
      sums = λ i below.
          choice_sum (λ column. slice_index column i) (λ k ns. times_at k ns i) num den g h
          ∙ ap (λ n. common / g.over * num * n + common / h.over * (den - num) * sum_by (λ column. slice_index column i) h.columns) (first.sums i below)
          ∙ ap (λ n. common / g.over * num * g.over + common / h.over * (den - num) * n) (second.sums i (omega (arith, same, below)))
          ∙ whole g.over h.over common (common / g.over) (common / h.over) num (den - num) den (omega (arith, less))
          (left_quotient g h first second) (right_quotient g h first second);
    }
