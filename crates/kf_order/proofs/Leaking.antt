-- What a channel's hyper is worth: each trace's column gives no value more than its weight times the column's greatest cell.
use Rattle.std.proofs.Common.{◌≡◌, ℕ, zero, suc, ◌*◌, ◌<◌, ◌≤◌, List, [], ◌∷◌, All, length, get_or, map, sum_by, ◌⊎◌, inl, inr, ⊎_elim}
use Rattle.std.proofs.Common.{refl, sym, ap, subst, ◌∙◌, arith}
use Rattle.std.specs.List.{AllByRecursion as Each}
use Rattle.std.specs.List.Sorted.{IsStrictlyIncreasing}
use Rattle.std.proofs.Math.IntN.{ℤ, pos, ◌*ℤ◌, zero-*ℤ}
use Rattle.std.proofs.Math.Nat.{eq-zero-or-pos}
use Rattle.std.proofs.lemmas.Bool.{cases_lt}
use Rattle.std.proofs.lemmas.Int.{ints}
use Rattle.std.proofs.lemmas.List.{get_or_default, length-map}
use Rattle.std.proofs.lemmas.List.Elements.{All-get_or, All-map, recursion_from_All}
use Rattle.std.proofs.lemmas.List.Sums.{get_or-le-sum_by, sum_by-cons}
use lib.Signed.{◌≤ℤ◌}
use Rattle.kf_frac.specs.Fractions.{parts_of}
use Rattle.kf_frac.proofs.Ring.{add_mul, mul_add}
use Rattle.kf_value.proofs.ListLemmas.{each_both}
use Rattle.kf_column.specs.declared.entry.Entry.{Entry}
use Rattle.kf_column.specs.Columns.{IsColumn, weight_at}
use Rattle.kf_column.specs.Hypers.{Inner, IsHyper}
use Rattle.kf_column.specs.Traces.{Row, value_weight}
use Rattle.kf_hyper.proofs.Averaging.{sum-mapped}
use Rattle.kf_column.proofs.Weighing.{averages_weigh}
use Rattle.kf_column.proofs.Weights.{Above, above_column}
use Rattle.kf_gain.specs.Gains.{GainOf, Bayes, TableTree}
use Rattle.kf_gain.specs.Laws.{HasActions}
use Rattle.kf_gain.specs.Vulnerabilities.{IsAverage, IsPrior, IsPosterior}
use Rattle.kf_gain.specs.Worth.{IsVulnerability}
use Rattle.kf_gain.proofs.Adding.{above_average}
use Rattle.kf_gain.proofs.Measures.{order_times, some}
use Rattle.kf_capacity.specs.Grids.{ChannelTree, column_in, denominator}
use Rattle.kf_capacity.specs.Vulnerabilities.{greatest}
use Rattle.kf_channel.specs.Channels.{AreSecrets}
use Rattle.kf_core.specs.Joint.{Cell}
use Rattle.kf_core.specs.Rows.{AreRowsOf, IsHyperOf}
use Rattle.kf_core.proofs.OneTable.{one_table}
use Rattle.kf_quiet.proofs.Worths.{posterior_worth, worth}
use Rattle.kf_order.specs.Channels.{CapacityIsLeaked, IsNotNegative, IsWorth, LeakageIsBounded}
use Rattle.kf_order.proofs.Worths.{inners_worth, some_actions}
use Rattle.kf_order.proofs.Cells.{cell_weighs, over_some}
use Rattle.kf_order.proofs.Growing.{worth_more}

-- ---- the greatest of some numbers

below_greatest : (ns : List ℕ) (i : ℕ) → get_or ns i 0 ≤ greatest ns
below_greatest [] i = omega arith
below_greatest (n ∷ ns) zero = omega arith
below_greatest (n ∷ ns) (suc i) = omega (arith, below_greatest ns i)

-- it is one of them, or 0
one_greatest : (ns : List ℕ) → (greatest ns ≡ 0) ⊎ ((i : ℕ) × (i < length ns) × (greatest ns ≡ get_or ns i 0))
one_greatest [] = inl refl
one_greatest (n ∷ ns) =
    ⊎_elim
    (λ (less : n < greatest ns).
    ⊎_elim (λ (none : greatest ns ≡ 0). absurd (omega (arith, less, none)))
    (λ (r : (i : ℕ) × (i < length ns) × (greatest ns ≡ get_or ns i 0)). inr (suc r.0, omega (arith, r.1), omega (arith, less, r.2))) (one_greatest ns))
    (λ (least : greatest ns ≤ n). inr (0, omega arith, omega (arith, least)))
    (cases_lt n (greatest ns))

-- ---- a channel's hyper

-- a channel, and the inners of its rows
pub record IsHyperOfRows (c : ChannelTree) (inners : List Inner) : Type 0 where
  pub columns : All (λ (r : Row). IsColumn r.column) c.rows
  pub secrets : AreSecrets c.rows c.secrets
  pub hyper : IsHyper (map (λ (r : Row). r.column) c.rows) inners

module _ (c : ChannelTree) (inners : List Inner) (is : IsHyperOfRows c inners) where
  abbrev over : ℕ
  over = denominator c

  -- the greatest cell of a trace's column
  abbrev most : Row → ℕ
  most row = greatest (column_in over c row)

  cells_bound : All (λ (r : Row). (x : ℕ) → weight_at r.column x * over ≤ value_weight c.rows x * most r) c.rows
  cells_bound k d within x =
      ⊎_elim
      (λ (none : value_weight c.rows x ≡ 0).
      let nothing : weight_at (get_or c.rows k d).column x ≡ 0 = omega (arith, none, get_or-le-sum_by (λ (r : Row). weight_at r.column x) c.rows k d within) in
      omega (arith, ap (λ (n : ℕ). n * over) nothing))
      (λ (heavy : 0 < value_weight c.rows x).
      let (i, here, at) = (is.secrets.listed x).1 heavy in
      let same : get_or c.secrets i 0 ≡ x = get_or_default c.secrets i 0 x here ∙ at in
      let cell = cell_weighs c is.secrets k d within i here in
      let less : get_or (column_in over c (get_or c.rows k d)) i 0 ≤ most (get_or c.rows k d) = below_greatest (column_in over c (get_or c.rows k d)) i in
      subst (λ (y : ℕ). weight_at (get_or c.rows k d).column y * over ≤ value_weight c.rows y * most (get_or c.rows k d)) same
      (bound (value_weight c.rows (get_or c.secrets i 0)) (get_or (column_in over c (get_or c.rows k d)) i 0) (most (get_or c.rows k d))
      (weight_at (get_or c.rows k d).column (get_or c.secrets i 0)) cell less))
      (eq-zero-or-pos (value_weight c.rows x))
    where
      bound : (p n m w : ℕ) → p * n ≡ over * w → n ≤ m → w * over ≤ p * m
      bound p n m w same less = grind arith

  -- ---- a sum over the traces

  abbrev AreColumns : List Row → Type 0
  AreColumns rows = Each (λ (r : Row). IsColumn r.column) rows

  columns : AreColumns c.rows
  columns = recursion_from_All (λ (r : Row). IsColumn r.column) c.rows is.columns

  -- the capacity, as a sum over the traces
  abbrev capacity : List Row → ℕ
  capacity rows = sum_by greatest (map (column_in over c) rows)

  module _ (best : List Entry → ℤ) (y : ℤ) where
    all_bounded : (rows : List Row) → Each (λ (r : Row). (best r.column *ℤ pos over) ≤ℤ (y *ℤ pos (most r))) rows
        → (worth (λ (r : Row). best r.column) rows *ℤ pos over) ≤ℤ (y *ℤ pos (capacity rows))
    all_bounded [] each = omega (arith, ints, zero-*ℤ (pos over))
    all_bounded (r ∷ rows) each =
        omega (
          arith,
          ints,
          add_mul (pos over) (best r.column) (worth (λ (r : Row). best r.column) rows),
          each.0,
          all_bounded rows each.1,
          mul_add y (pos (most r)) (pos (capacity rows)),
          ap (λ (n : ℕ). y *ℤ pos n) (sum_by-cons greatest (column_in over c r) (map (column_in over c) rows)),
        )

    all_met : (rows : List Row) → Each (λ (r : Row). (y *ℤ pos (most r)) ≤ℤ (best r.column *ℤ pos over)) rows
        → (y *ℤ pos (capacity rows)) ≤ℤ (worth (λ (r : Row). best r.column) rows *ℤ pos over)
    all_met [] each = omega (arith, ints, zero-*ℤ (pos over))
    all_met (r ∷ rows) each =
        omega (
          arith,
          ints,
          add_mul (pos over) (best r.column) (worth (λ (r : Row). best r.column) rows),
          each.0,
          all_met rows each.1,
          mul_add y (pos (most r)) (pos (capacity rows)),
          ap (λ (n : ℕ). y *ℤ pos n) (sum_by-cons greatest (column_in over c r) (map (column_in over c) rows)),
        )

  -- what is known before anything is seen
  prior_weighs : (d : List Entry) → IsAverage inners d → (x : ℕ) → weight_at d x ≡ value_weight c.rows x
  prior_weighs d average x =
      average.weights x
      ∙ averages_weigh (map (λ (r : Row). r.column) c.rows) inners (All-map IsColumn (λ (r : Row). r.column) c.rows is.columns) is.hyper x
      ∙ sum-mapped (λ (r : Row). r.column) (λ (d : List Entry). weight_at d x) c.rows

  -- ---- the bound

  module _ (g : GainOf TableTree) (y z : ℤ) (not_negative : IsNotNegative g) (p : IsPrior g inners y) (q : IsPosterior g inners z) where
    with_actions : HasActions g → (z *ℤ pos over) ≤ℤ (y *ℤ pos (capacity c.rows))
    with_actions has =
        let best : List Entry → ℤ = λ d. (some g d has).0 in
        let are : (d : List Entry) → IsVulnerability g d (best d) = λ d. (some g d has).1 in
        let sum : z ≡ worth (λ (r : Row). best r.column) c.rows = posterior_worth g best are c.rows inners columns is.hyper z q in
        let above : Above 0 p.average = above_average inners p.average p.is_average in
        let each : Each (λ (r : Row). (best r.column *ℤ pos over) ≤ℤ (y *ℤ pos (most r))) c.rows =
        each_both (λ (r : Row). IsColumn r.column) (λ (r : Row). (x : ℕ) → weight_at r.column x * over ≤ value_weight c.rows x * most r)
        (λ r. (best r.column *ℤ pos over) ≤ℤ (y *ℤ pos (most r)))
        (λ r column bound.
        worth_more over (most r) (over_some c is.secrets) r.column p.average (above_column r.column column) above
        (λ x. subst (λ (n : ℕ). weight_at r.column x * over ≤ n * most r) (sym (prior_weighs p.average p.is_average x)) (bound x)) g (best r.column) y not_negative
        (are r.column) p.is) c.rows columns
        (recursion_from_All (λ (r : Row). (x : ℕ) → weight_at r.column x * over ≤ value_weight c.rows x * most r) c.rows cells_bound) in
        subst (λ (w : ℤ). (w *ℤ pos over) ≤ℤ (y *ℤ pos (capacity c.rows))) (sym sum) (all_bounded best y c.rows each)

    nothing : HasActions g ⊎ ((columns : List (List Entry)) (z : ℤ) → IsWorth g columns z → z ≡ pos 0) → (z *ℤ pos over) ≤ℤ (y *ℤ pos (capacity c.rows))
    nothing (inl has) = with_actions has
    nothing (inr none) =
        let no_y : y ≡ pos 0 = none (p.average ∷ []) y (y, pos 0, p.is, refl, omega (arith, ints)) in
        let no_z : z ≡ pos 0 = none _ z (inners_worth g inners z q) in
        omega (
          arith,
          ints,
          ap (λ (v : ℤ). v *ℤ pos over) no_z,
          zero-*ℤ (pos over),
          ap (λ (v : ℤ). v *ℤ pos (capacity c.rows)) no_y,
          zero-*ℤ (pos (capacity c.rows)),
        )

    pub bounded : (z *ℤ pos over) ≤ℤ (y *ℤ pos (capacity c.rows))
    bounded = nothing (some_actions g)

  -- ---- one guess, where all secrets weigh the same

  module _ (weight : ℕ) (alike : All (λ (x : ℕ). value_weight c.rows x ≡ weight) c.secrets) where
    abbrev best : List Entry → ℤ
    best d = (some Bayes d tt).0

    are : (d : List Entry) → IsVulnerability Bayes d (best d)
    are d = (some Bayes d tt).1

    -- the best guess is worth at least what each value weighs
    guessed : (d : List Entry) (x : ℕ) → pos (weight_at d x) ≤ℤ best d
    guessed d x =
        let ascending : IsStrictlyIncreasing (x ∷ []) = λ k below. absurd (omega (arith, below)) in
        let r = (are d).best (pos (sum_by (weight_at d) (x ∷ []))) (x ∷ [], ascending, omega arith, refl) in
        omega (arith, ints, r, sum_by-cons (weight_at d) x [])

    not_negative : (d : List Entry) → pos 0 ≤ℤ best d
    not_negative d = (are d).best (pos (sum_by (weight_at d) [])) ([], (λ k below. absurd (omega (arith, below))), omega arith, refl)

    row_met : All (λ (r : Row). (pos weight *ℤ pos (most r)) ≤ℤ (best r.column *ℤ pos over)) c.rows
    row_met k d within =
        let row : Row = get_or c.rows k d in
        let column : List ℕ = column_in over c row in
        ⊎_elim
        (λ (none : greatest column ≡ 0).
        omega (
          arith,
          ints,
          ap (λ (n : ℕ). pos weight *ℤ pos n) none,
          order_times over (pos 0) (best row.column) (not_negative row.column),
        ))
        (λ (r : (i : ℕ) × (i < length column) × (greatest column ≡ get_or column i 0)).
        let i : ℕ = r.0 in
        let here : i < length c.secrets =
        omega (arith, r.1, length-map c.secrets (λ (x : ℕ). parts_of over (weight_at row.column x) (value_weight c.rows x))) in
        let x : ℕ = get_or c.secrets i 0 in
        let same : value_weight c.rows x ≡ weight = All-get_or (λ (x : ℕ). value_weight c.rows x ≡ weight) c.secrets i 0 here alike in
        let whole : weight * greatest column ≡ over * weight_at row.column x =
        (λ t. sym same t * r.2 t) ∙ cell_weighs c is.secrets k d within i here in
        omega (arith, ints, whole, order_times over (pos (weight_at row.column x)) (best row.column) (guessed row.column x)))
        (one_greatest column)

    -- and no guess is worth more than one secret before anything is seen
    prior_most : (y : ℤ) → IsPrior Bayes inners y → y ≤ℤ pos weight
    prior_most y p =
        let (xs, ascending, few, is_sum) = p.is.reached in omega (arith, ints, is_sum, most_of xs few)
      where
        at_most : (x : ℕ) → weight_at p.average x ≤ weight
        at_most x =
            let here : weight_at p.average x ≡ value_weight c.rows x = prior_weighs p.average p.is_average x in
            ⊎_elim (λ (none : value_weight c.rows x ≡ 0). omega (arith, here, none))
            (λ (heavy : 0 < value_weight c.rows x).
            let (i, within, at) = (is.secrets.listed x).1 heavy in
            let same : value_weight c.rows (get_or c.secrets i x) ≡ weight = All-get_or (λ (x : ℕ). value_weight c.rows x ≡ weight) c.secrets i x within alike in
            omega (arith, here, same, ap (λ (n : ℕ). value_weight c.rows n) at))
            (eq-zero-or-pos (value_weight c.rows x))

        most_of : (xs : List ℕ) → length xs ≤ 1 → sum_by (weight_at p.average) xs ≤ weight
        most_of [] few = omega arith
        most_of (x ∷ []) few = omega (arith, at_most x, sum_by-cons (weight_at p.average) x [])
        most_of (x ∷ y ∷ xs) few = absurd (omega (arith, few))

    pub met : (y z : ℤ) → IsPrior Bayes inners y → IsPosterior Bayes inners z → z *ℤ pos over ≡ y *ℤ pos (capacity c.rows)
    met y z p q =
        let sum : z ≡ worth (λ (r : Row). best r.column) c.rows = posterior_worth Bayes best are c.rows inners columns is.hyper z q in
        let reached : (pos weight *ℤ pos (capacity c.rows)) ≤ℤ (worth (λ (r : Row). best r.column) c.rows *ℤ pos over) =
        all_met best (pos weight) c.rows (recursion_from_All (λ (r : Row). (pos weight *ℤ pos (most r)) ≤ℤ (best r.column *ℤ pos over)) c.rows row_met) in
        omega (
          arith,
          ints,
          bounded Bayes y z tt p q,
          reached,
          ap (λ (w : ℤ). w *ℤ pos over) sum,
          order_times (capacity c.rows) y (pos weight) (prior_most y p),
        )

-- the channel and the hyper of one joint are made of one table
pub rows_of : (joint : List Cell) (c : ChannelTree) (inners : List Inner) → AreRowsOf joint c.rows → AreSecrets c.rows c.secrets → IsHyperOf joint inners
    → IsHyperOfRows c inners
rows_of joint c inners are secrets is = record {
  columns = are.columns;
  secrets = secrets;
  hyper = subst (λ (rows : List Row). IsHyper (map (λ (r : Row). r.column) rows) inners) (one_table joint is.rows c.rows is.are_rows are) is.is_hyper;
}

pub leakage_is_bounded : LeakageIsBounded
leakage_is_bounded joint c inners g y z are secrets is not_negative p q = bounded c inners (rows_of joint c inners are secrets is) g y z not_negative p q

pub capacity_is_leaked : CapacityIsLeaked
capacity_is_leaked joint c inners weight y z are secrets is alike p q = met c inners (rows_of joint c inners are secrets is) weight alike y z p q
