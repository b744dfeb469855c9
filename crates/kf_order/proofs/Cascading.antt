-- Data processing: each column of a cascade is mixed of those of its first channel, and so no gain makes them worth more.
use Rattle.std.proofs.Common.{◌≡◌, ℕ, zero, suc, ◌+◌, ◌*◌, ◌<◌, ◌≤◌, List, [], ◌∷◌, length, get_or, map, slice_index, ⊎_elim, zero-add}
use Rattle.std.proofs.Common.{refl, sym, ap, subst, ◌∙◌, arith}
use Rattle.std.specs.List.{AllZip, range_with_len}
use Rattle.std.proofs.Math.IntN.{ℤ, pos, ◌+ℤ◌, ◌*ℤ◌, zero-*ℤ}
use Rattle.std.proofs.Math.Nat.{eq-zero-or-pos}
use Rattle.std.proofs.lemmas.Bool.{cases_lt}
use Rattle.std.proofs.lemmas.Int.{ints}
use Rattle.std.proofs.lemmas.List.{get_or-map, get_or_past, length-map}
use Rattle.std.proofs.lemmas.List.Elements.{All-get_or}
use Rattle.std.proofs.lemmas.List.FromFn.{get_or-map-range_with_len, length-map-range_with_len}
use Rattle.std.proofs.lemmas.Slice.Zip.{AllZip-long}
use Rattle.kf_frac.proofs.Ring.{ring}
use Rattle.kf_column.specs.declared.entry.Entry.{Entry}
use Rattle.kf_column.specs.Columns.{weight_at}
use Rattle.kf_column.proofs.Weights.{Above, above_from, ascending_above, positive_above, weight_at_head, weight_at_other, weight_below}
use Rattle.kf_gain.specs.Gains.{GainOf, TableTree}
use Rattle.kf_gain.specs.Laws.{HasActions}
use Rattle.kf_gain.specs.Worth.{IsVulnerability, NoBetter}
use Rattle.kf_gain.proofs.Measures.{some}
use Rattle.kf_capacity.specs.Grids.{GridTree}
use Rattle.kf_capacity.specs.Compositions.{through, cascade_grid}
use Rattle.kf_capacity.specs.Laws.{Fit}
use Rattle.kf_simplex.specs.Base.{total}
use Rattle.kf_order.specs.Channels.{CascadeLeaksNoMore, IsSeen, IsWorth, SomeSeen}
use Rattle.kf_order.proofs.Worths.{some_actions, worth_total}
use Rattle.kf_order.proofs.Mixing.{all_mixed, mixed, of_nothing}
use Rattle.kf_refine.proofs.Spreading.{total-list}
use Rattle.kf_simplex.proofs.Sums.{total-ext, total-scale, total_all_zero}
use Rattle.kf_refine.proofs.Totals.{total-front}

seen_at : (prior : ℕ → ℕ) (all : List (List ℕ)) (columns : List (List Entry)) → AllZip (IsSeen prior) all columns → (i : ℕ) → i < length all
    → IsSeen prior (get_or all i []) (get_or columns i [])
seen_at prior [] columns seen i l = absurd (omega (arith, l))
seen_at prior (cells ∷ all) [] seen i l = absurd seen
seen_at prior (cells ∷ all) (c ∷ columns) seen zero l = seen.0
seen_at prior (cells ∷ all) (c ∷ columns) seen (suc i) l = seen_at prior all columns seen.1 i (omega (arith, l))

above_seen : (prior : ℕ → ℕ) (cells : List ℕ) (column : List Entry) → IsSeen prior cells column → Above 0 column
above_seen prior cells column is = above_from 0 column (λ _. omega arith) is.ascending is.positive

-- the numbers that pass, as a sum over places
through_total : (columns : List (List ℕ)) (places column : List ℕ) (x : ℕ) → length places ≡ length columns
    → pos (through columns places column x) ≡ total (length columns) (λ i. pos (slice_index (get_or columns i []) x) *ℤ pos (slice_index column (get_or places i 0)))
through_total [] places column x many = refl
through_total (first ∷ others) [] column x many = absurd (omega (arith, many))
through_total (first ∷ others) (place ∷ places) column x many =
    ap (λ (z : ℤ). pos (slice_index first x) *ℤ pos (slice_index column place) +ℤ z) (through_total others places column x (omega (arith, many)))
    ∙ sym (total-front (length others) (λ i. pos (slice_index (get_or (first ∷ others) i []) x) *ℤ pos (slice_index column (get_or (place ∷ places) i 0))))

-- ---- what is left of a prior

below_less : (low : ℕ) (column : List Entry) → Above (low + 1) column → Above low column
below_less low [] above = tt
below_less low (e ∷ es) (from, heavy, above) = (omega (arith, from), heavy, above)

-- from the secret i on
record SeenFrom (prior : ℕ → ℕ) (i : ℕ) (cells : List ℕ) : Type 0 where
  column : List Entry
  above : Above i column
  weights : (x : ℕ) → weight_at column (i + x) ≡ prior (i + x) * slice_index cells x

seen_from : (prior : ℕ → ℕ) (i : ℕ) (cells : List ℕ) → SeenFrom prior i cells
seen_from prior i [] = record { column = []; above = tt; weights = λ x. omega arith }
seen_from prior i (n ∷ cells) =
    let rest : SeenFrom prior (i + 1) cells = seen_from prior (i + 1) cells in
    ⊎_elim
    (λ (none : prior i * n ≡ 0).
    record { column = rest.column; above = below_less i rest.column rest.above; weights = left_out rest none })
    (λ (heavy : 0 < prior i * n).
    record { column = record { value = i; weight = prior i * n } ∷ rest.column; above = (omega arith, heavy, rest.above); weights = counted rest })
    (eq-zero-or-pos (prior i * n))
  where
    first : i + 0 ≡ i
    first = omega arith

    next : (x : ℕ) → i + suc x ≡ i + 1 + x
    next x = omega arith

    left_out : (rest : SeenFrom prior (i + 1) cells) → prior i * n ≡ 0 → (x : ℕ) → weight_at rest.column (i + x) ≡ prior (i + x) * slice_index (n ∷ cells) x
    left_out rest none zero =
        subst (λ (y : ℕ). weight_at rest.column y ≡ prior y * n) (sym first) (weight_below (i + 1) rest.column i rest.above (omega arith) ∙ sym none)
    left_out rest none (suc x) = subst (λ (y : ℕ). weight_at rest.column y ≡ prior y * slice_index cells x) (sym (next x)) (rest.weights x)

    counted : (rest : SeenFrom prior (i + 1) cells) (x : ℕ)
        → weight_at (record { value = i; weight = prior i * n } ∷ rest.column) (i + x) ≡ prior (i + x) * slice_index (n ∷ cells) x
    counted rest zero =
        let e : Entry = record { value = i; weight = prior i * n } in
        let none : weight_at rest.column i ≡ 0 = weight_below (i + 1) rest.column i rest.above (omega arith) in
        let here : weight_at (e ∷ rest.column) i ≡ prior i * n = omega (arith, weight_at_head e rest.column i refl, none) in
        subst (λ (y : ℕ). weight_at (e ∷ rest.column) y ≡ prior y * n) (sym first) here
    counted rest (suc x) =
        let e : Entry = record { value = i; weight = prior i * n } in
        subst (λ (y : ℕ). weight_at (e ∷ rest.column) y ≡ prior y * slice_index cells x) (sym (next x))
        (weight_at_other e rest.column (i + 1 + x) (λ same. omega (arith, same)) ∙ rest.weights x)

pub some_seen : SomeSeen
some_seen prior cells =
    let from : SeenFrom prior 0 cells = seen_from prior 0 cells in (
      from.column,
      record {
        ascending = ascending_above 0 from.column from.above;
        positive = positive_above 0 from.column from.above;
        weights = λ x. subst (λ (y : ℕ). weight_at from.column y ≡ prior y * slice_index cells x) (zero-add x) (from.weights x);
      },
    )

-- ---- a cascade

module _ (g h : GridTree) (places : List ℕ) (prior : ℕ → ℕ) (first both : List (List Entry)) (fit : Fit g h places)
    (of_first : AllZip (IsSeen prior) g.columns first) (of_both : AllZip (IsSeen prior) (cascade_grid g places h).columns both) where
  abbrev m : ℕ
  m = length g.columns

  abbrev n : ℕ
  n = length h.columns

  abbrev passing : List ℕ → List ℕ
  passing column = map (through g.columns places column) (range_with_len 0 g.rows)

  abbrev before : ℕ → List Entry
  before i = get_or first i []

  abbrev after : ℕ → List Entry
  after j = get_or both j []

  abbrev times : ℕ → ℕ → ℤ
  times i j = pos (slice_index (get_or h.columns j []) (get_or places i 0))

  abbrev numbers : ℕ → ℕ → ℤ
  numbers i x = pos (slice_index (get_or g.columns i []) x)

  passed : (j x : ℕ) → pos (slice_index (passing (get_or h.columns j [])) x) ≡ total m (λ i. numbers i x *ℤ times i j)
  passed j x =
      ⊎_elim
      (λ (below : x < g.rows).
      ap pos (get_or-map-range_with_len (through g.columns places (get_or h.columns j [])) 0 g.rows x x 0 below (omega arith))
      ∙ through_total g.columns places (get_or h.columns j []) x fit.many)
      (λ (past : g.rows ≤ x).
      ap pos (get_or_past (passing (get_or h.columns j [])) x 0 (omega (arith, past, length-map-range_with_len (through g.columns places (get_or h.columns j [])) 0 g.rows)))
      ∙ sym (total_all_zero m (λ i. numbers i x *ℤ times i j)
      (λ (i : ℕ) (k : i < m).
      let long : length (get_or g.columns i []) ≡ g.rows = All-get_or (λ (column : List ℕ). length column ≡ g.rows) g.columns i [] k fit.first.long in
      ap (λ (w : ℕ). pos w *ℤ times i j) (get_or_past (get_or g.columns i []) x 0 (omega (arith, past, long))) ∙ zero-*ℤ (times i j))))
      (cases_lt x g.rows)

  seen_before : (i : ℕ) → i < m → IsSeen prior (get_or g.columns i []) (before i)
  seen_before i k = seen_at prior g.columns first of_first i k

  seen_after : (j : ℕ) → j < n → IsSeen prior (passing (get_or h.columns j [])) (after j)
  seen_after j l =
      subst (λ (cells : List ℕ). IsSeen prior cells (after j)) (get_or-map passing h.columns j [] [] l)
      (seen_at prior (map passing h.columns) both of_both j (omega (arith, l, length-map h.columns passing)))

  after_weighs : (j : ℕ) → j < n → (x : ℕ) → pos 1 *ℤ pos (weight_at (after j) x) ≡ total m (λ i. pos (weight_at (before i) x) *ℤ times i j)
  after_weighs j l x =
      ap (λ (w : ℕ). pos 1 *ℤ pos w) ((seen_after j l).weights x)
      ∙ whole (prior x) (slice_index (passing (get_or h.columns j [])) x)
      ∙ ap (λ (z : ℤ). pos (prior x) *ℤ z) (passed j x)
      ∙ sym (total-scale m (pos (prior x)) (λ i. numbers i x *ℤ times i j))
      ∙ total-ext m (λ i. pos (prior x) *ℤ (numbers i x *ℤ times i j)) (λ i. pos (weight_at (before i) x) *ℤ times i j)
      (λ (i : ℕ) (k : i < m).
      turned (pos (prior x)) (numbers i x) (times i j) ∙ ap (λ (w : ℕ). pos w *ℤ times i j) (sym ((seen_before i k).weights x)))
    where
      whole : (p s : ℕ) → pos 1 *ℤ pos (p * s) ≡ pos p *ℤ pos s
      whole p s = omega (arith, ints)

      turned : (p w t : ℤ) → p *ℤ (w *ℤ t) ≡ p *ℤ w *ℤ t
      turned p w t = simp ring refl

  times_rows : (i : ℕ) → i < m → total n (times i) ≡ pos h.over
  times_rows i k =
      total-list (λ (column : List ℕ). slice_index column (get_or places i 0)) h.columns []
      ∙ ap pos (fit.second.sums (get_or places i 0) (All-get_or (λ place. place < h.rows) places i 0 (omega (arith, k, fit.many)) fit.within))

  module _ (gain : GainOf TableTree) (y z : ℤ) (p : IsWorth gain both y) (q : IsWorth gain first z) where
    with_actions : HasActions gain → NoBetter gain y (z *ℤ pos h.over)
    with_actions has =
        let best : List Entry → ℤ = λ c. (some gain c has).0 in
        let are : (c : List Entry) → IsVulnerability gain c (best c) = λ c. (some gain c has).1 in
        let long_first : length first ≡ m = AllZip-long (IsSeen prior) g.columns first of_first in
        let long_both : length both ≡ n = AllZip-long (IsSeen prior) (map passing h.columns) both of_both ∙ length-map h.columns passing in
        let of_z : z ≡ total m (λ i. best (before i)) = worth_total gain best are first z q ∙ ap (λ (k : ℕ). total k (λ i. best (before i))) long_first in
        let of_y : y ≡ total n (λ j. best (after j)) = worth_total gain best are both y p ∙ ap (λ (k : ℕ). total k (λ j. best (after j))) long_both in
        let all : NoBetter gain (pos 1 *ℤ total n (λ j. best (after j))) (total m (λ i. best (before i)) *ℤ pos h.over) =
        all_mixed gain best are m n before after times 1 (pos h.over)
        (λ (j : ℕ) (l : j < n).
        mixed gain best are m before (λ i. times i j) (λ (i : ℕ) (k : i < m). omega (arith, ints)) (λ (i : ℕ) (k : i < m). above_seen prior _ (before i) (seen_before i k)) (after j) 1
        (omega arith) (above_seen prior _ (after j) (seen_after j l)) (after_weighs j l)) times_rows in
        let one : pos 1 *ℤ total n (λ j. best (after j)) ≡ y = omega (arith, ints, of_y) in
        subst (λ (v : ℤ). NoBetter gain v (z *ℤ pos h.over)) one
        (subst (λ (w : ℤ). NoBetter gain (pos 1 *ℤ total n (λ j. best (after j))) (w *ℤ pos h.over)) (sym of_z) all)

    pub whatever : NoBetter gain y (z *ℤ pos h.over)
    whatever =
        ⊎_elim with_actions
        (λ none. of_nothing gain y (z *ℤ pos h.over) (none both y p) (ap (λ (v : ℤ). v *ℤ pos h.over) (none first z q) ∙ zero-*ℤ (pos h.over)))
        (some_actions gain)

pub cascade_leaks_no_more : CascadeLeaksNoMore
cascade_leaks_no_more g h places prior gain first both y z fit of_first of_both p q = whatever g h places prior first both fit of_first of_both gain y z p q
