-- The least common denominator of a channel's cells, gathered one after the other.
use Rattle.std.proofs.Common.{◌≡◌, ℕ, ◌+◌, ◌<◌, ◌≤◌, pos, List, [], ◌∷◌, All, map, drop, length, get_or, ◌∙◌, arith}
use Rattle.std.proofs.lemmas.List.{at_drop_more}
use Rattle.std.proofs.lemmas.List.Elements.{All-nil, All-cons, All-head, All-tail, All-drop, All-get_or}
use Rattle.std.proofs.lemmas.Nat.Gcd.{le_of_dvd}
use Rattle.std.proofs.Math.Nat.{one-dvd}
use Rattle.std.specs.Int.{◌∣◌}
use Rattle.kf_frac.specs.Divisors.{lcm_of, common_multiple}
use Rattle.kf_frac.specs.Laws.{multiple_from}
use Rattle.kf_frac.proofs.CommonMultiples.{lcm_is}
use Rattle.kf_frac.proofs.LowestTerms.{reduced_den_positive}
use Rattle.kf_frac.proofs.Multiples.{ArePositive, growing, positive_from, positive_both, from_both, from_one, lcm_divides, common_positive, common_divided}
use Rattle.kf_column.specs.Traces.{Row, value_weight}
use Rattle.kf_capacity.specs.Dens.{column_dens, dens}
use Rattle.kf_capacity.specs.Grids.{ChannelTree, cell, cell_den, denominator}
use Rattle.kf_capacity.specs.Laws.{LeastDenominator}

-- ---- the least one

-- it divides each number that all of them divide
pub common_divides : (ds : List ℕ) (m : ℕ) → All (λ d. 0 < d) ds → All (λ d. d ∣ m) ds → common_multiple ds ∣ m
common_divides [] m some all = one-dvd m
common_divides (d ∷ ds) m some all =
    let rest = All-tail (λ d. 0 < d) d ds some in
    let is = lcm_is d (common_multiple ds) (All-head (λ d. 0 < d) d ds some) (common_positive ds rest) in
    lcm_divides d (common_multiple ds) (common_multiple (d ∷ ds)) m is (All-head (λ d. d ∣ m) d ds all)
    (common_divides ds m rest (All-tail (λ d. d ∣ m) d ds all))

pub least_denominator : LeastDenominator
least_denominator c some =
    let ds : List ℕ = dens c c.rows in
    record {
      positive = common_positive ds some;
      divided = common_divided ds some;
      least = λ m positive all. le_of_dvd positive (common_divides ds m some all);
    }

-- ---- denominators are positive

-- each secret has a weight
abbrev pub AllWeigh : ChannelTree → Type 0
AllWeigh c = All (λ x. 0 < value_weight c.rows x) c.secrets

each_positive : (ds : List ℕ) → ArePositive ds → All (λ d. 0 < d) ds
each_positive [] all = All-nil (λ d. 0 < d)
each_positive (d ∷ ds) (some, all) = All-cons (λ d. 0 < d) d ds some (each_positive ds all)

module _ (c : ChannelTree) (weigh : AllWeigh c) where
  cells_positive : (row : Row) (xs : List ℕ) → All (λ x. 0 < value_weight c.rows x) xs → ArePositive (map (cell_den c row) xs)
  cells_positive row [] all = tt
  cells_positive row (x ∷ xs) all = (
    reduced_den_positive (pos (cell c row x).part) (cell c row x).whole (All-head (λ x. 0 < value_weight c.rows x) x xs all),
    cells_positive row xs (All-tail (λ x. 0 < value_weight c.rows x) x xs all),
  )

  column_positive : (row : Row) → ArePositive (column_dens c row)
  column_positive row = cells_positive row c.secrets weigh

  rows_positive : (rows : List Row) → ArePositive (dens c rows)
  rows_positive [] = tt
  rows_positive (row ∷ rows) = positive_both (column_dens c row) (dens c rows) (column_positive row) (rows_positive rows)

  pub dens_positive : All (λ d. 0 < d) (dens c c.rows)
  dens_positive = each_positive (dens c c.rows) (rows_positive c.rows)

  pub denominator_is : multiple_from 1 (dens c c.rows) ≡ denominator c
  denominator_is = from_one (dens c c.rows) (rows_positive c.rows)

  -- ---- one step of a loop

  -- at a cell
  module _ (row : Row) (i multiple : ℕ) (within : i < length c.secrets) where
    abbrev pub here : ℕ
    here = cell_den c row (get_or c.secrets i 0)

    pub cell_more : multiple_from multiple (map (cell_den c row) (drop i c.secrets))
        ≡ multiple_from (lcm_of here multiple) (map (cell_den c row) (drop (i + 1) c.secrets))
    cell_more = at_drop_more (λ (xs : List ℕ). multiple_from multiple (map (cell_den c row) xs)) c.secrets i 0 within

    here_positive : 0 < here
    here_positive =
        let share = cell c row (get_or c.secrets i 0) in
        reduced_den_positive (pos share.part) share.whole (All-get_or (λ x. 0 < value_weight c.rows x) c.secrets i 0 within weigh)

    -- where it passes a bound there, it does at the end
    pub cell_wide : (most : ℕ) → 0 < multiple → multiple_from multiple (map (cell_den c row) (drop i c.secrets)) ≤ most → lcm_of here multiple ≤ most
    cell_wide most some small =
        omega (
          arith,
          small,
          cell_more,
          growing (lcm_of here multiple) (map (cell_den c row) (drop (i + 1) c.secrets)) (lcm_is here multiple here_positive some).positive
              (cells_positive row (drop (i + 1) c.secrets) (All-drop (λ x. 0 < value_weight c.rows x) (i + 1) c.secrets weigh)),
        )

  -- at a column
  module _ (j multiple : ℕ) (none : Row) (within : j < length c.rows) where
    abbrev pub so_far : ℕ
    so_far = multiple_from multiple (column_dens c (get_or c.rows j none))

    pub column_more : multiple_from multiple (dens c (drop j c.rows)) ≡ multiple_from so_far (dens c (drop (j + 1) c.rows))
    column_more =
        at_drop_more (λ (rows : List Row). multiple_from multiple (dens c rows)) c.rows j none within
        ∙ from_both multiple (column_dens c (get_or c.rows j none)) (dens c (drop (j + 1) c.rows))

    pub column_wide : (most : ℕ) → 0 < multiple → multiple_from multiple (dens c (drop j c.rows)) ≤ most → so_far ≤ most
    column_wide most some small =
        let row = get_or c.rows j none in
        omega (
          arith,
          small,
          column_more,
          growing so_far (dens c (drop (j + 1) c.rows)) (positive_from multiple (column_dens c row) some (column_positive row))
              (rows_positive (drop (j + 1) c.rows)),
        )
