-- The rules on a matrix of named entries, along the entries.
use Rattle.std.proofs.Common.{◌≡◌, ℕ, ◌*◌, ◌/◌, ◌+◌, ◌==◌, ◌<◌, ◌≤◌, List, [], ◌∷◌, All, map, sum_by, Bool, true, false, refl, sym, ap, ◌∙◌, subst, arith, if◌then◌else◌}
use Rattle.std.specs.Prelude.{flat_map}
use Rattle.std.specs.Int.{◌∣◌}
use Rattle.std.specs.List.{list_all}
use Rattle.std.proofs.Math.IntN.{ℤ, pos, ◌*ℤ◌}
use Rattle.std.proofs.Math.Nat.{one-dvd}
use Rattle.std.proofs.lemmas.Bool.{and_parts, and_from, eq-eqb, eqb-true}
use Rattle.std.proofs.lemmas.Int.{ints}
use Rattle.std.proofs.lemmas.List.Elements.{All-head, All-tail, All-nil, All-cons, All-map}
use Rattle.std.proofs.lemmas.Nat.Gcd.{le_of_dvd}
use Rattle.kf_frac.specs.Divisors.{common_multiple}
use Rattle.kf_frac.specs.Fractions.{limit}
use Rattle.kf_frac.proofs.CommonMultiples.{lcm_is}
use Rattle.kf_frac.proofs.Multiples.{lcm_divides, common_positive, common_divided}
use Rattle.kf_column.specs.Hypers.{Inner}
use Rattle.kf_simplex.specs.Base.{total}
use Rattle.kf_simplex.proofs.Sums.{total-ext}
use Rattle.kf_refine.specs.Refinements.{HyperTree, Fraction, count, joint, CarriesWeights}
use Rattle.kf_cert.specs.Cells.{column_weight, column_total, IsCarried}
use Rattle.kf_cert.specs.Certificates.{EntryTree, NamedTree, value_at, matrix_of, ascends}
use Rattle.kf_cert.specs.Marks.{IsInRange, denominator, over_one}
use Rattle.kf_cert.specs.Rows.{matrix_between, IsWithin, AreWithin, dens, amount_of, share_of, row_amount, SumsToOne, SumToOne}
use Rattle.kf_cert.specs.declared.matrix_rules.shares.Share.{Share}
use Rattle.kf_cert.proofs.Denominators.{at_entry, to_dens, denominator_positive, denominator_divided}
use Rattle.kf_cert.proofs.EntrySums.{AreInside, inside_told, row_sum, column_sum, amount_is, taken_most}
use Rattle.kf_cert.proofs.NamedRows.{matrix_shaped, matrix_entry, value_has, matrix_has}
use Rattle.kf_cert.proofs.PlaceOrder.{Above, ascends_above, value_none}
use Rattle.kf_cert.specs.Order.{stands_at, is_inside, is_in_order}

abbrev none : Fraction
none = record { num = pos 0; den = 1 }

-- ---- what all cells have, all named values have

module _ (P : Fraction → Type 0) (of_none : P none) (m n : ℕ) where
  named_have : (r c : ℕ) (es : List EntryTree) → Above r c es → AreInside m n es → ((i j : ℕ) → i < m → j < n → P (value_at es i j))
      → All (λ e. P e.value) es
  named_have r c [] above inside each = All-nil (λ (e : EntryTree). P e.value)
  named_have r c (e ∷ es) above inside each =
      let here = All-head (λ (e : EntryTree). (e.row < m) × (e.column < n)) e es inside in
      All-cons (λ (e : EntryTree). P e.value) e es
      (subst P (at_itself e es) (each e.row e.column here.0 here.1))
      (named_have e.row (e.column + 1) es above.1 (All-tail (λ (e : EntryTree). (e.row < m) × (e.column < n)) e es inside) (λ i j l k. later i j (each i j l k)))
    where
      at_itself : (e : EntryTree) (es : List EntryTree) → value_at (e ∷ es) e.row e.column ≡ e.value
      at_itself e es = ap (λ (b : Bool). if b then e.value else value_at es e.row e.column) (and_from (e.row == e.row) (e.column == e.column) (eq-eqb e.row e.row refl) (eq-eqb e.column e.column refl))

      later : (i j : ℕ) → P (value_at (e ∷ es) i j) → P (value_at es i j)
      later i j had = by (stands_at i j e) refl had
        where
          by : (b : Bool) → stands_at i j e ≡ b → P (if b then e.value else value_at es i j) → P (value_at es i j)
          by false other had = had
          by true there had =
              let both = and_parts (e.row == i) (e.column == j) there in
              subst P
              (sym (value_none e.row e.column es above.1) ∙ (λ k. value_at es (eqb-true e.row i both.0 k) (eqb-true e.column j both.1 k)))
              of_none

-- ---- least common multiples

pub common_divides : (ds : List ℕ) (k : ℕ) → All (λ d. 0 < d) ds → All (λ d. d ∣ k) ds → common_multiple ds ∣ k
common_divides [] k some all = one-dvd k
common_divides (d ∷ ds) k some all =
    let rest = All-tail (λ d. 0 < d) d ds some in
    lcm_divides d (common_multiple ds) (common_multiple (d ∷ ds)) k
    (lcm_is d (common_multiple ds) (All-head (λ d. 0 < d) d ds some) (common_positive ds rest))
    (All-head (λ d. d ∣ k) d ds all) (common_divides ds k rest (All-tail (λ d. d ∣ k) d ds all))

-- ---- the rules

-- the denominators of entries are positive
abbrev pub AreFractions : List EntryTree → Type 0
AreFractions es = All (λ e. 0 < e.value.den) es

module _ (a b : HyperTree) (es : List EntryTree) (ordered : is_in_order (matrix_between a b es) ≡ true) where
  abbrev pub whole : NamedTree
  whole = matrix_between a b es

  abbrev pub rows : List (List Fraction)
  rows = matrix_of (matrix_between a b es)

  parts : (ascends es ≡ true) × (list_all (is_inside (count a) (count b)) es ≡ true)
  parts = and_parts (ascends es) (list_all (is_inside (count a) (count b)) es) ordered

  above : Above 0 0 es
  above = ascends_above es parts.0

  pub inside : AreInside (count a) (count b) es
  inside = inside_told (count a) (count b) es parts.1

  -- a property of all cells
  pub cells_have : (P : Fraction → Type 0) → P none → All (λ e. P e.value) es → All (λ row. All P row) rows
  cells_have P of_none all = matrix_has P of_none whole all

  pub have_cells : (P : Fraction → Type 0) → P none → All (λ row. All P row) rows → All (λ e. P e.value) es
  have_cells P of_none all =
      named_have P of_none (count a) (count b) 0 0 es above inside
      (λ i j l k. subst P (matrix_entry whole i j l k) (at_entry P (count a) (count b) rows (matrix_shaped whole) all i j l k))

  pub within_range : AreWithin es → IsInRange rows
  within_range all = cells_have IsWithin (omega (arith, ints), omega (arith, ints)) all

  pub range_within : IsInRange rows → AreWithin es
  range_within all = have_cells IsWithin (omega (arith, ints), omega (arith, ints)) all

  module _ (fractions : AreFractions es) where
    all_fractions : All (λ row. All (λ f. 0 < f.den) row) rows
    all_fractions = cells_have (λ f. 0 < f.den) (omega arith) fractions

    positive_dens : All (λ d. 0 < d) (dens es)
    positive_dens = All-map (λ d. 0 < d) (λ (e : EntryTree). e.value.den) es fractions

    pub some_multiple : 0 < common_multiple (dens es)
    some_multiple = common_positive (dens es) positive_dens

    -- the one denominator
    pub denominator_same : denominator rows ≡ common_multiple (dens es)
    denominator_same =
        let least : denominator rows ∣ common_multiple (dens es) =
        common_divides (flat_map (λ row. map (λ f. f.den) row) rows) (common_multiple (dens es))
        (to_dens (λ d. 0 < d) rows all_fractions)
        (to_dens (λ d. d ∣ common_multiple (dens es)) rows
        (cells_have (λ f. f.den ∣ common_multiple (dens es)) (one-dvd (common_multiple (dens es)))
        (of_map (λ d. d ∣ common_multiple (dens es)) es (common_divided (dens es) positive_dens)))) in
        let most : common_multiple (dens es) ∣ denominator rows =
        common_divides (dens es) (denominator rows) positive_dens
        (All-map (λ d. d ∣ denominator rows) (λ (e : EntryTree). e.value.den) es
        (have_cells (λ f. f.den ∣ denominator rows) (one-dvd (denominator rows)) (denominator_divided rows all_fractions))) in
        omega (arith, le_of_dvd some_multiple least, le_of_dvd (denominator_positive rows all_fractions) most)
      where
        of_map : (Q : ℕ → Type 0) (es : List EntryTree) → All Q (map (λ (e : EntryTree). e.value.den) es) → All (λ e. Q e.value.den) es
        of_map Q [] all = All-nil (λ (e : EntryTree). Q e.value.den)
        of_map Q (e ∷ es) all =
            All-cons (λ (e : EntryTree). Q e.value.den) e es (All-head Q e.value.den (map (λ (e : EntryTree). e.value.den) es) all)
            (of_map Q es (All-tail Q e.value.den (map (λ (e : EntryTree). e.value.den) es) all))

    -- a scale times it
    pub scaled : (scale : ℕ) → scale ≡ a.scale → a.scale * denominator rows ≤ limit → scale * common_multiple (dens es) ≤ limit
    scaled scale same fits = subst (λ (n : ℕ). n * common_multiple (dens es) ≤ limit) (sym same) (subst (λ (d : ℕ). a.scale * d ≤ limit) denominator_same fits)

    pub scaled_back : (scale : ℕ) → scale ≡ a.scale → scale * common_multiple (dens es) ≤ limit → a.scale * denominator rows ≤ limit
    scaled_back scale same fits = subst (λ (d : ℕ). a.scale * d ≤ limit) (sym denominator_same) (subst (λ (n : ℕ). n * common_multiple (dens es) ≤ limit) same fits)

    module _ (within : AreWithin es) (d : ℕ) (shares : List Share) (same : d ≡ common_multiple (dens es)) (made : shares ≡ map (share_of d) es) where
      values_within : (i j : ℕ) → IsWithin (value_at es i j)
      values_within = value_has IsWithin (omega (arith, ints), omega (arith, ints)) es within

      one : d ≡ denominator rows
      one = same ∙ sym denominator_same

      -- a cell over the one denominator
      cell_is : (i j : ℕ) → i < count a → j < count b → over_one rows i j ≡ pos (amount_of d (value_at es i j))
      cell_is i j l k =
          (λ v. (matrix_entry whole i j l k v).num *ℤ pos (sym one v / (matrix_entry whole i j l k v).den))
          ∙ amount_is d (value_at es i j) (values_within i j)

      row_is : (i : ℕ) → i < count a → total (count b) (over_one rows i) ≡ pos (row_amount shares i)
      row_is i l =
          total-ext (count b) (over_one rows i) (λ j. pos (amount_of d (value_at es i j))) (λ j k. cell_is i j l k)
          ∙ row_sum (count a) (count b) d i es above inside ∙ ap (λ (s : List Share). pos (row_amount s i)) (sym made)

      pub sums_told : SumsToOne d (count a) shares → SumToOne (count a) (count b) rows
      sums_told sums i l = row_is i l ∙ ap pos (sums i l ∙ one)

      pub told_sums : SumToOne (count a) (count b) rows → SumsToOne d (count a) shares
      told_sums sums i l = omega (arith, ints, row_is i l, sums i l, one)

      carried_is : (x j : ℕ) → j < count b → total (count a) (λ i. pos (joint a x i) *ℤ over_one rows i j) ≡ pos (column_weight a shares j x)
      carried_is x j k =
          total-ext (count a) (λ i. pos (joint a x i) *ℤ over_one rows i j) (λ i. pos (joint a x i * amount_of d (value_at es i j)))
          (λ i l. ap (λ (z : ℤ). pos (joint a x i) *ℤ z) (cell_is i j l k) ∙ omega (arith, ints))
          ∙ column_sum (count a) (count b) d j (joint a x) es above inside ∙ ap (λ (s : List Share). pos (column_weight a s j x)) (sym made)

      pub carries_told : ((j : ℕ) → j < count b → IsCarried a b d shares j) → CarriesWeights a b (denominator rows) (over_one rows)
      carries_told each x j k =
          ap (λ (z : ℤ). pos b.scale *ℤ z) (carried_is x j k) ∙ ap pos (each j k x) ∙ ap (λ (n : ℕ). pos (a.scale * n * joint b x j)) one

      pub told_carries : CarriesWeights a b (denominator rows) (over_one rows) → (j : ℕ) → j < count b → IsCarried a b d shares j
      told_carries carries j k x =
          same_pos (sym (ap (λ (z : ℤ). pos b.scale *ℤ z) (carried_is x j k)) ∙ carries x j k ∙ ap (λ (n : ℕ). pos (a.scale * n * joint b x j)) (sym one))
        where
          same_pos : {m n : ℕ} → pos m ≡ pos n → m ≡ n
          same_pos e = cc

      -- what is taken of the totals fits
      pub columns_fit : sum_by (λ (i : Inner). i.total) a.inners ≡ a.scale → a.scale * d ≤ limit → (j : ℕ) → column_total a shares j ≤ limit
      columns_fit all fits j =
          let most = taken_most a (count b) d es above inside values_within j in
          omega (arith, most, fits, ap (λ (n : ℕ). n * d) all, ap (λ (s : List Share). column_total a s j) made)

      -- each share is of an inner of a
      pub shares_inside : All (λ s. s.row < count a) shares
      shares_inside = subst (All (λ s. s.row < count a)) (sym made) (of_map es inside)
        where
          of_map : (es : List EntryTree) → AreInside (count a) (count b) es → All (λ s. s.row < count a) (map (share_of d) es)
          of_map [] all = All-nil (λ (s : Share). s.row < count a)
          of_map (e ∷ es) all =
              All-cons (λ (s : Share). s.row < count a) (share_of d e) (map (share_of d) es)
              (All-head (λ (e : EntryTree). (e.row < count a) × (e.column < count b)) e es all).0
              (of_map es (All-tail (λ (e : EntryTree). (e.row < count a) × (e.column < count b)) e es all))
