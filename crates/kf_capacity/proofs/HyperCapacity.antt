-- The capacity of a channel by the inners of its hyper is that of its grid.
use Rattle.std.proofs.Common.{◌≡◌, ℕ, zero, suc, ◌*◌, ◌/◌, ◌<◌, ◌≤◌, ◌==◌, max, pos, List, [], ◌∷◌, All, Contains, map, sum_by, length, get_or, refl, sym, ◌∙◌, ap, subst, arith, if◌then◌else◌, ⊎_elim}
use Rattle.std.proofs.Math.Nat.{div-mul_cancel, div-zero, dvd-mul_right, mul-div-le, mul-le-mul_left, mul_comm, mul-le-mul, le_of_mul-le-mul_right}
use Rattle.std.proofs.lemmas.Bool.{cases_eq, eqb-true}
use Rattle.std.proofs.lemmas.List.{get_or-map}
use Rattle.std.proofs.lemmas.List.Elements.{All-head, All-tail, All-map, All-from_get_or, Contains-get_or}
use Rattle.std.proofs.lemmas.List.Sums.{sum_by-cons, sum_by-le-sum_by}
use Rattle.std.proofs.lemmas.Nat.Gcd.{dvd_trans, le_of_dvd}
use Rattle.std.specs.Int.{◌∣◌}
use Rattle.kf_frac.specs.declared.frac.Frac.{Frac}
use Rattle.kf_frac.specs.Divisors.{gcd_of}
use Rattle.kf_frac.specs.Fractions.{limit, reduced_den, parts_of}
use Rattle.kf_frac.specs.Parts.{IsFraction}
use Rattle.kf_frac.proofs.CommonDivisors.{gcd_is}
use Rattle.kf_frac.proofs.LowestTerms.{reduced_num_abs, reduced_den_times}
use Rattle.kf_frac.proofs.Multiples.{common_positive}
use Rattle.kf_frac.proofs.Scaling.{same_num, same_den}
use Rattle.kf_value.specs.Targets.{Item}
use Rattle.kf_column.specs.declared.entry.Entry.{Entry}
use Rattle.kf_column.specs.Averages.{average_weight, joint_column, joint_weight}
use Rattle.kf_column.specs.Columns.{IsColumn, values, weight_at}
use Rattle.kf_column.specs.Hypers.{Inner, IsHyper}
use Rattle.kf_column.specs.Traces.{Row, value_weight}
use Rattle.kf_column.proofs.AtMostOne.{if_above}
use Rattle.kf_column.proofs.ClassSums.{contains_map, place_above}
use Rattle.kf_column.proofs.Weighing.{averages_weigh, joint_column_weighs}
use Rattle.kf_channel.specs.Channels.{AreSecrets}
use Rattle.kf_capacity.specs.Beliefs.{IsWholeIn, belief_capacity, belief_cell, greatest_cell}
use Rattle.kf_capacity.specs.Dens.{column_dens, dens}
use Rattle.kf_capacity.specs.Grids.{ChannelTree, capacity_of, cell_den, channel_grid, column_in, denominator}
use Rattle.kf_capacity.specs.Vulnerabilities.{greatest}
use Rattle.kf_capacity.proofs.Channels.{cells_divide}
use Rattle.kf_capacity.proofs.Denominators.{AllWeigh, common_divides, dens_positive}
use Rattle.kf_capacity.proofs.Dividing.{mapped_twice}
use Rattle.kf_capacity.proofs.HyperSums.{hyper_sum, sums_swapped}
use Rattle.kf_capacity.proofs.Pieces.{from_pieces, sum_of_made}
use Rattle.kf_capacity.proofs.Sums.{at_most_greatest, max_times, sum_same, sum_times}

-- ---- greatest numbers

-- of numbers with a common factor
greatest_times : (f g : ℕ → ℕ) (k : ℕ) (xs : List ℕ) → All (λ x. f x ≡ g x * k) xs → greatest (map f xs) ≡ greatest (map g xs) * k
greatest_times f g k [] all = omega arith
greatest_times f g k (x ∷ xs) all =
    (λ i. max (All-head (λ x. f x ≡ g x * k) x xs all i) (greatest_times f g k xs (All-tail (λ x. f x ≡ g x * k) x xs all) i))
    ∙ max_times (g x) (greatest (map g xs)) k

at_most_listed : (h : ℕ → ℕ) (ys : List ℕ) (y : ℕ) → Contains ys y → h y ≤ greatest (map h ys)
at_most_listed h ys y here =
    subst (λ (x : ℕ). h x ≤ greatest (map h ys)) here.2
    (omega (arith, at_most_greatest (map h ys) here.0, get_or-map h ys here.0 y 0 here.1))

-- a list is enough that has what is above 0
greatest_wider : (h : ℕ → ℕ) (xs ys : List ℕ) → ((x : ℕ) → 0 < h x → Contains ys x) → greatest (map h xs) ≤ greatest (map h ys)
greatest_wider h [] ys wider = omega arith
greatest_wider h (x ∷ xs) ys wider =
    let rest = greatest_wider h xs ys wider in
    ⊎_elim
    (λ (none : h x ≡ 0). omega (arith, rest, none))
    (λ (some : h x ≡ 0 → ⊥). omega (arith, rest, at_most_listed h ys x (wider x (omega arith))))
    (cases_eq (h x) 0)

-- and at most their sum
greatest_summed : (h : ℕ → ℕ) (xs : List ℕ) → greatest (map h xs) ≤ sum_by h xs
greatest_summed h [] = omega arith
greatest_summed h (x ∷ xs) = omega (arith, greatest_summed h xs, sum_by-cons h x xs)

bounded_sum : (h : ℕ → ℕ) (n : ℕ) (xs : List ℕ) → ((x : ℕ) → h x ≤ n) → sum_by h xs ≤ n * length xs
bounded_sum h n [] each = omega arith
bounded_sum h n (x ∷ xs) each = omega (arith, each x, bounded_sum h n xs each, sum_by-cons h x xs)

first_positive : (a b : ℕ) → 0 < a * b → 0 < a
first_positive zero b some = omega (arith, some)
first_positive (suc a) b some = omega arith

-- a value of some weight is named
named : (es : List Entry) (x : ℕ) → 0 < weight_at es x → Contains (values es) x
named es x some =
    let none : Entry = record { value = 0; weight = 0 } in
    let place = place_above (λ (e : Entry). if e.value == x then e.weight else 0) es some in
    let e : Entry = get_or es place.0 none in
    subst (Contains (values es)) (eqb-true e.value x (if_above (e.value == x) e.weight (place.2 none)).0)
    (contains_map (λ (e : Entry). e.value) es place.0 none place.1)

-- ---- cells

-- a cell's n-ths, brought to a multiple of the whole
cell_scaled : (over n w whole : ℕ) → reduced_den (pos w) whole ∣ over → whole ∣ n → parts_of over w whole * n ≡ w * (n / whole) * over
cell_scaled over n w whole divides multiple =
    let g : ℕ = gcd_of w whole in
    let a : ℕ = w / g in
    let d : ℕ = reduced_den (pos w) whole in
    let q : ℕ = over / d in
    let p : ℕ = n / whole in
    let num : a * g ≡ w = div-mul_cancel g (gcd_is w whole).0 in
    let den : d * g ≡ whole = reduced_den_times (pos w) whole in
    let times : q * d ≡ over = div-mul_cancel d divides in
    let more : p * (d * g) ≡ n = ap (λ (k : ℕ). p * k) den ∙ div-mul_cancel whole multiple in
    ap (λ (k : ℕ). k * q * n) (reduced_num_abs (pos w) whole)
    ∙ ap (λ (k : ℕ). a * q * k) (sym more)
    ∙ turned a q p d g
    ∙ (λ i. num i * p * times i)
  where
    turned : (a q p d g : ℕ) → a * q * (p * (d * g)) ≡ a * g * p * (q * d)
    turned a q p d g = omega arith

divides_whole : (w whole : ℕ) → reduced_den (pos w) whole ∣ whole
divides_whole w whole =
    let d : ℕ = reduced_den (pos w) whole in
    subst (λ (k : ℕ). d ∣ k) (reduced_den_times (pos w) whole) (dvd-mul_right d (gcd_of w whole))

-- ---- inners

module _ (n : ℕ) (inners : List Inner) where
  abbrev share : ℕ → ℕ
  share x = n / average_weight inners x

  -- the greatest number among those of some values
  abbrev top : List ℕ → List Entry → ℕ
  top xs c = greatest (map (λ x. weight_at c x * share x) xs)

  top_linear : (xs : List ℕ) (k : ℕ) (c d : List Entry) → ((x : ℕ) → weight_at c x ≡ k * weight_at d x) → top xs c ≡ k * top xs d
  top_linear xs k c d each =
      greatest_times (λ x. weight_at c x * share x) (λ x. weight_at d x * share x) k xs
      (λ i e below.
      let x : ℕ = get_or xs i e in
      ap (λ (m : ℕ). m * share x) (each x) ∙ turned k (weight_at d x) (share x))
      ∙ mul_comm (top xs d) k
    where
      turned : (k w s : ℕ) → k * w * s ≡ w * s * k
      turned k w s = omega arith

  -- what isn't 0 has a weight to be divided by
  share_weighs : (w x : ℕ) → 0 < w * share x → 0 < average_weight inners x
  share_weighs w x some =
      ⊎_elim
      (λ (none : average_weight inners x ≡ 0).
      let nothing : w * share x ≡ w * 0 = ap (λ (m : ℕ). w * m) (ap (λ (k : ℕ). n / k) none ∙ div-zero n) in
      absurd (omega (arith, some, nothing)))
      (λ (some : average_weight inners x ≡ 0 → ⊥). omega arith)
      (cases_eq (average_weight inners x) 0)

  module _ (i : Inner) where
    abbrev cells : ℕ → ℕ
    cells x = belief_cell n inners i x

    by_values : greatest_cell n inners i ≡ greatest (map cells (values i.entries))
    by_values = ap greatest (sym (mapped_twice cells (λ (e : Entry). e.value) (λ (e : Entry). cells e.value) (λ e. refl) i.entries))

  module _ (xs : List ℕ) (listed : (x : ℕ) → 0 < average_weight inners x → Contains xs x) where
    -- an inner's greatest cell is that of its joint column
    greatest_is_top : (i : Inner) → greatest_cell n inners i ≡ top xs (joint_column i)
    greatest_is_top i =
        let less = greatest_wider (cells i) (values i.entries) xs (λ x some. listed x (share_weighs (joint_weight x i) x some)) in
        let more =
        greatest_wider (cells i) xs (values i.entries)
        (λ x some. named i.entries x (first_positive (weight_at i.entries x) _ (first_positive (joint_weight x i) (share x) some))) in
        let same : greatest (map (cells i) xs) ≡ top xs (joint_column i) =
        (λ k. greatest (map (λ x. sym (joint_column_weighs i x) k * share x) xs)) in
        omega (arith, by_values i, less, more, same)

    -- the cells of a value are n in all, or nothing
    value_sum : (x : ℕ) → sum_by (λ i. cells i x) inners ≤ n
    value_sum x =
        omega (
          arith,
          sum_same (λ (i : Inner). cells i x) (λ (i : Inner). share x * joint_weight x i) inners (λ k d below. mul_comm (joint_weight x (get_or inners k d)) (share x)),
          sum_times (share x) (joint_weight x) inners,
          mul-div-le n (average_weight inners x),
        )

    -- of so many values
    pub belief_bound : belief_capacity n inners ≤ n * length xs
    belief_bound =
        let all : Inner → ℕ = λ i. sum_by (cells i) xs in
        omega (
          arith,
          sum_by-le-sum_by (greatest_cell n inners) all inners
              (λ i.
              omega (
                arith,
                by_values i,
                greatest_wider (cells i) (values i.entries) xs (λ x some. listed x (share_weighs (joint_weight x i) x some)),
                greatest_summed (cells i) xs,
              )),
          sums_swapped (λ (i : Inner) (x : ℕ). cells i x) inners xs,
          bounded_sum (λ x. sum_by (λ (i : Inner). cells i x) inners) n xs value_sum,
        )

    -- the inners' greatest cells sum to those of the columns
    belief_is_top : (columns : List (List Entry)) → All IsColumn columns → IsHyper columns inners → belief_capacity n inners ≡ sum_by (top xs) columns
    belief_is_top columns are hyper =
        sum_same (greatest_cell n inners) (λ (i : Inner). top xs (joint_column i)) inners (λ k d below. greatest_is_top (get_or inners k d))
        ∙ hyper_sum (top xs) (top_linear xs) columns inners are hyper

pub belief_narrow : (n : ℕ) (inners : List Inner) → IsWholeIn inners n → belief_capacity n inners ≤ limit
belief_narrow n inners whole = omega (arith, belief_bound n inners whole.values (λ x some. (whole.listed x).1 some), whole.narrow)

-- ---- the channel

-- the inners together give each value what the rows give
weights_agree : (rows : List Row) (inners : List Inner) → All (λ r. IsColumn r.column) rows → IsHyper (map (λ r. r.column) rows) inners
    → (x : ℕ) → average_weight inners x ≡ value_weight rows x
weights_agree rows inners are hyper x =
    averages_weigh (map (λ (r : Row). r.column) rows) inners (All-map IsColumn (λ (r : Row). r.column) rows are) hyper x
    ∙ sum_of_made (λ (c : List Entry). weight_at c x) (λ (r : Row). r.column) (λ (r : Row). weight_at r.column x) (λ r. refl) rows

-- so the values of weight are the secrets
pub values_are_secrets : (rows : List Row) (inners : List Inner) (n : ℕ) → All (λ r. IsColumn r.column) rows → IsHyper (map (λ r. r.column) rows) inners
    → (whole : IsWholeIn inners n) → AreSecrets rows whole.values
values_are_secrets rows inners n are hyper whole = record {
  ascending = whole.ascending;
  listed = λ x. (
    λ here. let some = (whole.listed x).0 here in omega (arith, some, weights_agree rows inners are hyper x),
    λ some. (whole.listed x).1 (omega (arith, some, weights_agree rows inners are hyper x)),
  );
}

module _ (target : List Item) (rows : List Row) (inners : List Inner) (secrets : List ℕ) (n : ℕ) (are : All (λ r. IsColumn r.column) rows)
    (hyper : IsHyper (map (λ r. r.column) rows) inners) (listed : AreSecrets rows secrets) (whole : IsWholeIn inners n) where
  abbrev channel : ChannelTree
  channel = record { target = target; rows = rows; secrets = secrets }

  abbrev over : ℕ
  over = denominator channel

  columns_are : All IsColumn (map (λ r. r.column) rows)
  columns_are = All-map IsColumn (λ (r : Row). r.column) rows are

  weights_are : (x : ℕ) → average_weight inners x ≡ value_weight rows x
  weights_are = weights_agree rows inners are hyper

  weigh : AllWeigh channel
  weigh i d below = (listed.listed (get_or secrets i d)).0 (Contains-get_or secrets i d below)

  whole_divides : (x : ℕ) → 0 < value_weight rows x → value_weight rows x ∣ n
  whole_divides x some = subst (λ (k : ℕ). k ∣ n) (weights_are x) (whole.multiple x (omega (arith, some, weights_are x)))

  pub over_positive : 0 < over
  over_positive = common_positive (dens channel rows) (dens_positive channel weigh)

  -- ---- the denominator

  over_within : (m : ℕ) → 0 < m → All (λ x. value_weight rows x ∣ m) secrets → over ≤ m
  over_within m some all =
      le_of_dvd some
      (common_divides (dens channel rows) m (dens_positive channel weigh)
      (from_pieces (λ d. d ∣ m) (column_dens channel) rows
      (λ j none inside. All-map (λ d. d ∣ m) (cell_den channel (get_or rows j none)) secrets
      (λ i e below.
      let x : ℕ = get_or secrets i e in
      let w : ℕ = weight_at (get_or rows j none).column x in
      dvd_trans (reduced_den (pos w) (value_weight rows x)) (divides_whole w (value_weight rows x)) (all i e below)))))

  pub over_below : over ≤ n
  over_below = over_within n whole.positive (λ i e below. whole_divides (get_or secrets i e) (weigh i e below))

  some_value : 0 < length secrets → 0 < length whole.values
  some_value some =
      let x : ℕ = get_or secrets 0 0 in
      let here : Contains whole.values x = (whole.listed x).1 (omega (arith, weigh 0 0 some, weights_are x)) in
      omega (arith, here.1)

  pub over_narrow : over ≤ limit
  over_narrow =
      ⊎_elim
      (λ (none : length secrets ≡ 0).
      let one : over ≤ 1 = over_within 1 (omega arith) (λ i e below. absurd (omega (arith, none, below))) in
      omega (arith, one))
      (λ (some : length secrets ≡ 0 → ⊥).
      let least : n * 1 ≤ n * length whole.values = mul-le-mul_left n (some_value (omega arith)) in
      omega (arith, over_below, least, whole.narrow))
      (cases_eq (length secrets) 0)

  -- ---- the capacity

  in_secrets : (x : ℕ) → 0 < average_weight inners x → Contains secrets x
  in_secrets x some = (listed.listed x).1 (omega (arith, some, weights_are x))

  abbrev column_top : Row → ℕ
  column_top r = top n inners secrets r.column

  -- a column's greatest number, over either denominator
  column_greatest : All (λ r. greatest (column_in over channel r) * n ≡ column_top r * over) rows
  column_greatest j none inside =
      let r : Row = get_or rows j none in
      let part : ℕ → ℕ = λ x. parts_of over (weight_at r.column x) (value_weight rows x) in
      sym (greatest_times (λ x. part x * n) part n secrets (λ i e below. refl))
      ∙ greatest_times (λ x. part x * n) (λ x. weight_at r.column x * share n inners x) over secrets
      (All-from_get_or (λ x. part x * n ≡ weight_at r.column x * share n inners x * over) secrets 0
      (λ i below.
      let x : ℕ = get_or secrets i 0 in
      let w : ℕ = weight_at r.column x in
      cell_scaled over n w (value_weight rows x) (cells_divide channel weigh i below j none inside) (whole_divides x (weigh i 0 below))
      ∙ ap (λ (k : ℕ). w * (n / k) * over) (sym (weights_are x))))

  -- the sum of the inners' greatest cells, over either denominator
  pub belief_is_capacity : belief_capacity n inners * over ≡ capacity_of (channel_grid channel) * n
  belief_is_capacity =
      let first : belief_capacity n inners ≡ sum_by column_top rows =
      belief_is_top n inners secrets in_secrets (map (λ (r : Row). r.column) rows) columns_are hyper
      ∙ sum_of_made (top n inners secrets) (λ (r : Row). r.column) column_top (λ r. refl) rows in
      let second : capacity_of (channel_grid channel) ≡ sum_by (λ r. greatest (column_in over channel r)) rows =
      sum_of_made greatest (column_in over channel) (λ r. greatest (column_in over channel r)) (λ r. refl) rows in
      let turned : sum_by (λ r. over * column_top r) rows ≡ sum_by (λ r. n * greatest (column_in over channel r)) rows =
      sum_same (λ r. over * column_top r) (λ r. n * greatest (column_in over channel r)) rows
      (λ j none inside. mul_comm over _ ∙ sym (column_greatest j none inside) ∙ mul_comm _ n) in
      mul_comm (belief_capacity n inners) over ∙ ap (λ (k : ℕ). over * k) first ∙ sym (sum_times over column_top rows) ∙ turned
      ∙ sum_times n (λ r. greatest (column_in over channel r)) rows ∙ ap (λ (k : ℕ). n * k) (sym second) ∙ mul_comm n (capacity_of (channel_grid channel))

  pub capacity_narrow : capacity_of (channel_grid channel) ≤ limit
  capacity_narrow =
      let count : ℕ = length whole.values in
      let bound : belief_capacity n inners ≤ n * count = belief_bound n inners whole.values (λ x some. (whole.listed x).1 some) in
      let times : belief_capacity n inners * over ≤ n * count * n = mul-le-mul bound over_below in
      let within : capacity_of (channel_grid channel) ≤ n * count =
      le_of_mul-le-mul_right {m = capacity_of (channel_grid channel)} {n = n * count} {k = n} (omega (arith, times, belief_is_capacity)) whole.positive in
      omega (arith, within, whole.narrow)

  -- so both are one fraction
  pub same_capacity : (f : Frac) → IsFraction f (pos (belief_capacity n inners)) n → IsFraction f (pos (capacity_of (channel_grid channel))) over
  same_capacity f is =
      let here : ℕ = belief_capacity n inners in
      let there : ℕ = capacity_of (channel_grid channel) in
      record {
        num = is.num ∙ same_num (pos here) (pos there) n over whole.positive over_positive (ap (λ (k : ℕ). pos k) belief_is_capacity);
        den = is.den ∙ same_den (pos here) (pos there) n over whole.positive over_positive (ap (λ (k : ℕ). pos k) belief_is_capacity);
      }
