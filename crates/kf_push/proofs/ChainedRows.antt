-- The rows behind runs that go on: each row behind the first runs, followed by each row behind the second.
use Rattle.std.proofs.Common.{◌≡◌, ℕ, zero, suc, ◌+◌, ◌<◌, ◌==◌, ◌&&◌, Bool, true, false, cond, List, []}
use Rattle.std.proofs.Common.{◌∷◌, ◌++◌, map, refl, sym, ap, subst, ◌∙◌, arith, inl, inr, ⊎_elim, true≢false}
use Rattle.std.specs.Cmp.Lexicographic.{pointwise}
use Rattle.std.specs.List.{AllByRecursion as Each, flat_map}
use Rattle.std.specs.List.Sorted.{IsStrictlySortedBy}
use Rattle.std.specs.declared.cmp.Ordering.{Ordering}
use Rattle.std.specs.declared.cmp.Ordering.TheVariants.{Less}
use Rattle.std.proofs.Math.Nat.{dvd-add}
use Rattle.std.proofs.lemmas.Bool.{false_from_ne_true, cases_eq}
use Rattle.std.proofs.lemmas.Grind.{flat_map-append}
use Rattle.std.proofs.lemmas.List.{map-append, append_cancel_left}
use Rattle.kf_value.specs.Values.{is_equal}
use Rattle.kf_value.proofs.ListLemmas.{each_weaker, each_flat_map, each_both, each_map, each_any}
use Rattle.kf_value.proofs.Sorting.{sorted-nil, sorted-cons, sorted-head, sorted-tail, sorted-map, sorted-flat_map, Before}
use Rattle.kf_column.specs.declared.entry.Entry.{Entry}
use Rattle.kf_column.specs.Traces.{Row, trace_order}
use Rattle.kf_column.proofs.AtMostOne.{In}
use Rattle.kf_column.proofs.Scaling.{two_ways}
use Rattle.kf_column.proofs.Weights.{above_column}
use Rattle.kf_core.specs.Joint.{Cell, cells, weight_of, trace_weight}
use Rattle.kf_core.specs.Ready.{carried_cells}
use Rattle.kf_core.specs.Rows.{AreRowsOf}
use Rattle.kf_core.specs.Runs.{Run, chain}
use Rattle.kf_core.proofs.Measures.{Measure}
use Rattle.kf_core.proofs.OneTable.{in_from_contains}
use Rattle.kf_core.proofs.Stores.{lists_decide}
use Rattle.kf_core.proofs.Sums.{adds_same, adds_nothing, each_is}
use Rattle.kf_core.specs.Each.{HasTrace}
use Rattle.kf_push.specs.Merging.{SplitsOnce}
use Rattle.kf_push.proofs.CellWeights.{Trace, Test, weighs, weight_by, at_trace, weight_is, trace_weight_is, carried_weigh, cells_plus}
use Rattle.kf_push.proofs.CellsFrom.{IsTraceOf, IsRowOf, traces, trace_is, cells_traced, rows_told}
use Rattle.kf_push.proofs.CellsFrom.{rows_from, each_in, each_unmap, positive_part, cell_trace, cond_some}
use Rattle.kf_push.proofs.ChainedCells.{behind_trace, Shares, shares_on, cells_hold, brings_on, carried_chain}
use Rattle.kf_push.proofs.Gathers.{trace_value}
use Rattle.kf_push.proofs.RowColumns.{columns_of, row_list, row_columns, behind_of, are_rows, rows_are}
use Rattle.kf_push.proofs.TracesJoined.{behind_one, IsNoFront, in_order, same_front}

-- ---- tests of a trace, and of what else

abbrev at_also : Trace → (ℕ → Bool) → Test
at_also t extra = λ u x. pointwise is_equal u t && extra x

and_true : (b : Bool) → b ≡ (b && true)
and_true true = refl
and_true false = refl

trace_also : (t : Trace) (cs : List Cell) → weight_by (at_trace t) cs ≡ weight_by (at_also t (λ x. true)) cs
trace_also t cs = each_is (weighs (at_trace t)) (weighs (at_also t (λ x. true)))
    (λ c. ap (λ b. cond b c.weight 0) (and_true (pointwise is_equal c.trace t))) cs

module _ (s t u : Trace) (p : IsNoFront s t) (q : IsNoFront t s) where
  split_test : (b : Bool) → pointwise is_equal s t ≡ b → (v : Trace) → pointwise is_equal (s ++ v) (t ++ u) ≡ (b && pointwise is_equal v u)
  split_test true is v =
      let same : s ≡ t = (lists_decide s t).0 is in
      two_ways (pointwise is_equal (s ++ v) (t ++ u)) (pointwise is_equal v u)
      (λ h. (lists_decide v u).1 (append_cancel_left t v u (ap (λ l. l ++ v) (sym same) ∙ (lists_decide (s ++ v) (t ++ u)).0 h)))
      (λ h. (lists_decide (s ++ v) (t ++ u)).1 (λ i. same i ++ (lists_decide v u).0 h i))
  split_test false is v =
      false_from_ne_true (pointwise is_equal (s ++ v) (t ++ u)) (λ h.
      let same : s ≡ t = same_front s t v u p q ((lists_decide (s ++ v) (t ++ u)).0 h) in
      true≢false (sym ((lists_decide s t).1 same) ∙ is))

  -- what is at a trace and another behind it
  split_by : (extra : ℕ → Bool) (b : Bool) → pointwise is_equal s t ≡ b → (cs : List Cell)
      → weight_by (behind_trace s (at_also (t ++ u) extra)) cs ≡ cond b (weight_by (at_also u extra) cs) 0
  split_by extra true is cs = each_is (weighs (behind_trace s (at_also (t ++ u) extra))) (weighs (at_also u extra))
      (λ c. ap (λ b. cond (b && extra c.value) c.weight 0) (split_test true is c.trace)) cs
  split_by extra false is cs =
      each_is (weighs (behind_trace s (at_also (t ++ u) extra))) (λ c. 0)
      (λ c. ap (λ b. cond (b && extra c.value) c.weight 0) (split_test false is c.trace)) cs ∙ sym (adds_nothing cs)

-- ---- lists of rows

abbrev row_order : Row → Row → Ordering
row_order r s = trace_order r.trace s.trace

by_rows : (rows : List Row) → IsStrictlySortedBy trace_order (traces rows) → IsStrictlySortedBy row_order rows
by_rows [] h = sorted-nil row_order
by_rows (r ∷ rs) h =
    sorted-cons row_order r rs (each_unmap (λ t. trace_order r.trace t ≡ Less) (λ (s : Row). s.trace) rs (sorted-head trace_order r.trace (traces rs) h))
    (by_rows rs (sorted-tail trace_order r.trace (traces rs) h))

pub in_left : {X : Type 0} (x : X) (xs ys : List X) → In x xs → In x (xs ++ ys)
in_left x [] ys h = absurd h
in_left x (y ∷ xs) ys (inl e) = inl e
in_left x (y ∷ xs) ys (inr h) = inr (in_left x xs ys h)

pub in_right : {X : Type 0} (x : X) (xs ys : List X) → In x ys → In x (xs ++ ys)
in_right x [] ys h = h
in_right x (y ∷ xs) ys h = inr (in_right x xs ys h)

-- the row behind a trace
abbrev prefixed : Trace → Row → Row
prefixed t r = record { trace = t ++ r.trace; column = r.column }

in_prefixed : (t u : Trace) (rows : List Row) → In u (traces rows) → In (t ++ u) (traces (map (prefixed t) rows))
in_prefixed t u [] h = absurd h
in_prefixed t u (r ∷ rs) (inl e) = inl (ap (λ v. t ++ v) e)
in_prefixed t u (r ∷ rs) (inr h) = inr (in_prefixed t u rs h)

same_columns : (t : Trace) (rows : List Row) → columns_of (map (prefixed t) rows) ≡ columns_of rows
same_columns t [] = refl
same_columns t (r ∷ rs) = ap (λ cs. r.column ∷ cs) (same_columns t rs)

none_of_none : (p : Test) (w : ℕ) (rs : List Run) → w ≡ 0 → Each (Shares w) rs → weight_by p (cells (λ n. n) w rs) ≡ 0
none_of_none p zero rs none h = let both = cells_plus p 0 0 rs h h in omega (arith, both)
none_of_none p (suc w) rs none h = absurd (omega (arith, none))

module _ (from next : ℕ → List Run) (splits : SplitsOnce from) where
  no_front : (t s : Trace) → IsTraceOf from t → IsTraceOf from s → IsNoFront t s
  no_front t s a b w e = splits a.0 b.0 a.1 b.1 w a.2 b.2 a.3 b.3 (b.4 ∙ e ∙ ap (λ l. l ++ w) (sym a.4))

  abbrev both : ℕ → List Run
  both n = chain (from n) next

  -- the rows behind a row
  abbrev on : Row → List Row
  on r = map (prefixed r.trace) (row_list next r.column)

  module _ (extra : ℕ → Bool) (u : Trace) where
    abbrev behind_measure : Measure
    behind_measure = record {
      holds = λ n w. Each (Shares w) (next n);
      value = λ n w. weight_by (at_also u extra) (cells (λ n. n) w (next n));
      closed = λ n a b h k. each_both (Shares a) (Shares b) (Shares (a + b)) (λ r s t. (s.0, dvd-add r.scale s.1 t.1)) (next n) h k;
      linear = λ n a b h k. cells_plus (at_also u extra) a b (next n) h k;
    }

  module _ (column : List Entry) (shares : Each (λ e. Each (Shares e.weight) (chain (from e.value) next)) column) where
    abbrev first_cells : List Cell
    first_cells = carried_cells from column

    abbrev both_cells : List Cell
    both_cells = carried_cells both column

    goes : Each (λ d. Each (Shares d.weight) (next d.value)) first_cells
    goes = cells_hold Shares shares_on next from column shares

    module _ (r : Row) (told : IsRowOf first_cells r) where
      split_cell : (extra : ℕ → Bool) (u : Trace) (d : Cell) → IsTraceOf from d.trace
          → brings_on next (at_also (r.trace ++ u) extra) d ≡ cond (pointwise is_equal d.trace r.trace)
          (weight_by (at_also u extra) (cells (λ n. n) d.weight (next d.value))) 0
      split_cell extra u d at =
          let here = trace_is from column r.trace told.0 in
          split_by d.trace r.trace u (no_front d.trace r.trace at here) (no_front r.trace d.trace here at) extra (pointwise is_equal d.trace r.trace) refl
          (cells (λ n. n) d.weight (next d.value))

      split_weight : (extra : ℕ → Bool) (u : Trace) → weight_by (at_also (r.trace ++ u) extra) both_cells
          ≡ weight_by (at_also u extra) (carried_cells next r.column)
      split_weight extra u =
          carried_chain next (at_also (r.trace ++ u) extra) from column shares
          ∙ adds_same (brings_on next (at_also (r.trace ++ u) extra))
          (λ d. cond (pointwise is_equal d.trace r.trace) (weight_by (at_also u extra) (cells (λ n. n) d.weight (next d.value))) 0) first_cells
          (each_weaker (λ d. IsTraceOf from d.trace)
          (λ d. brings_on next (at_also (r.trace ++ u) extra) d
          ≡ cond (pointwise is_equal d.trace r.trace) (weight_by (at_also u extra) (cells (λ n. n) d.weight (next d.value))) 0)
          (split_cell extra u) first_cells (cells_traced from column))
          ∙ trace_value (behind_measure extra u) first_cells goes r.trace r.column (above_column r.column told.1) told.2
          ∙ sym (carried_weigh (at_also u extra) next r.column)

      row_weight : (u : Trace) (x : ℕ) → weight_of both_cells (r.trace ++ u) x ≡ weight_of (carried_cells next r.column) u x
      row_weight u x = weight_is both_cells (r.trace ++ u) x ∙ split_weight (λ y. y == x) u ∙ sym (weight_is (carried_cells next r.column) u x)

      row_trace : (u : Trace) → trace_weight both_cells (r.trace ++ u) ≡ trace_weight (carried_cells next r.column) u
      row_trace u =
          trace_weight_is both_cells (r.trace ++ u) ∙ trace_also (r.trace ++ u) both_cells ∙ split_weight (λ y. true) u
          ∙ sym (trace_weight_is (carried_cells next r.column) u ∙ trace_also u (carried_cells next r.column))

      row_found : (u : Trace) → HasTrace both_cells (r.trace ++ u) → In (r.trace ++ u) (traces (on r))
      row_found u has =
          let there : HasTrace (carried_cells next r.column) u = subst (λ n. 0 < n) (row_trace u) has in
          in_prefixed r.trace u (row_list next r.column) (in_from_contains (traces (row_list next r.column)) u (((are_rows next r.column).all u).1 there))

      row_fits : Each (IsRowOf both_cells) (on r)
      row_fits =
          each_map (IsRowOf both_cells) (prefixed r.trace) (row_list next r.column)
          (each_weaker (IsRowOf (carried_cells next r.column)) (λ s. IsRowOf both_cells (prefixed r.trace s))
          (λ s h. (subst (λ n. 0 < n) (sym (row_trace s.trace)) h.0, h.1, λ x. h.2 x ∙ sym (row_weight s.trace x))) (row_list next r.column)
          (rows_told (carried_cells next r.column) (row_list next r.column) (are_rows next r.column)))

    abbrev first_rows : List Row
    first_rows = row_list from column

    first_told : Each (IsRowOf first_cells) first_rows
    first_told = rows_told first_cells first_rows (are_rows from column)

    abbrev all_rows : List Row
    all_rows = flat_map on first_rows

    all_fit : Each (IsRowOf both_cells) all_rows
    all_fit =
        each_flat_map (IsRowOf both_cells) on first_rows
        (each_weaker (IsRowOf first_cells) (λ r. Each (IsRowOf both_cells) (on r)) row_fits first_rows first_told)

    rows_sorted : (t : Trace) (rows : List Row) → IsStrictlySortedBy row_order rows → IsStrictlySortedBy row_order (map (prefixed t) rows)
    rows_sorted t rows h = sorted-map row_order row_order (prefixed t) (λ r s less. behind_one t r.trace s.trace ∙ less) rows h

    rows_before : (r s : Row) → IsRowOf first_cells r → IsRowOf first_cells s → row_order r s ≡ Less → Before row_order (on r) (on s)
    rows_before r s a b less =
        let free = no_front r.trace s.trace (trace_is from column r.trace a.0) (trace_is from column s.trace b.0) in
        each_map (λ x. Each (λ y. row_order x y ≡ Less) (on s)) (prefixed r.trace) (row_list next r.column)
        (each_any (λ x. Each (λ y. row_order (prefixed r.trace x) y ≡ Less) (on s))
        (λ x. each_map (λ y. row_order (prefixed r.trace x) y ≡ Less) (prefixed s.trace) (row_list next s.column)
        (each_any (λ y. row_order (prefixed r.trace x) (prefixed s.trace y) ≡ Less) (λ y. in_order r.trace s.trace x.trace y.trace free less)
        (row_list next s.column)))
        (row_list next r.column))

    all_sorted : IsStrictlySortedBy trace_order (traces all_rows)
    all_sorted =
        sorted-map row_order trace_order (λ (r : Row). r.trace) (λ r s less. less) all_rows
        (sorted-flat_map (IsRowOf first_cells) row_order row_order on
        (λ r told. rows_sorted r.trace (row_list next r.column) (by_rows (row_list next r.column) (are_rows next r.column).ascending))
        rows_before first_rows first_told (by_rows first_rows (are_rows from column).ascending))

    -- each trace of some weight is found
    found_among : (t u : Trace) (rows : List Row) → Each (IsRowOf first_cells) rows → In t (traces rows) → HasTrace both_cells (t ++ u)
        → In (t ++ u) (traces (flat_map on rows))
    found_among t u [] told here has = absurd here
    found_among t u (r ∷ rs) told (inl e) has =
        subst (λ l. In (t ++ u) l) (sym (map-append (λ (r : Row). r.trace) (on r) (flat_map on rs)))
        (in_left (t ++ u) (traces (on r)) (traces (flat_map on rs))
        (subst (λ s. In (s ++ u) (traces (on r))) (sym e) (row_found r told.0 u (subst (λ s. HasTrace both_cells (s ++ u)) e has))))
    found_among t u (r ∷ rs) told (inr later) has =
        subst (λ l. In (t ++ u) l) (sym (map-append (λ (r : Row). r.trace) (on r) (flat_map on rs)))
        (in_right (t ++ u) (traces (on r)) (traces (flat_map on rs)) (found_among t u rs told.1 later has))

    found : (t : Trace) → HasTrace both_cells t → In t (traces all_rows)
    found t has =
        let whole = trace_weight_is both_cells t ∙ carried_chain next (at_trace t) from column shares in
        let d = positive_part (brings_on next (at_trace t)) first_cells (subst (λ n. 0 < n) whole has) in
        let behind = cells (λ n. n) d.0.weight (next d.0.value) in
        let q = positive_part (weighs (behind_trace d.0.trace (at_trace t))) behind d.2 in
        let same : d.0.trace ++ q.0.trace ≡ t = (lists_decide (d.0.trace ++ q.0.trace) t).0
        (cond_some (pointwise is_equal (d.0.trace ++ q.0.trace) t) q.0.weight q.2).0 in
        let some : 0 < d.0.weight =
        ⊎_elim
        (λ (none : d.0.weight ≡ 0).
        let nothing = none_of_none (behind_trace d.0.trace (at_trace t)) d.0.weight (next d.0.value) none
        (each_in (λ (d : Cell). Each (Shares d.weight) (next d.value)) first_cells d.0 goes d.1) in
        absurd (omega (arith, nothing, d.2)))
        (λ (other : d.0.weight ≡ 0 → ⊥). omega (arith, other))
        (cases_eq d.0.weight 0) in
        let there = in_from_contains (traces first_rows) d.0.trace (((are_rows from column).all d.0.trace).1 (cell_trace first_cells d.0 d.1 some)) in
        subst (λ s. In s (traces all_rows)) same (found_among d.0.trace q.0.trace first_rows first_told there (subst (HasTrace both_cells) (sym same) has))

    chained_rows : AreRowsOf both_cells all_rows
    chained_rows = rows_from both_cells all_rows all_sorted all_fit found

    columns_on : (rows : List Row) → behind_of next (columns_of rows) ≡ columns_of (flat_map on rows)
    columns_on [] = refl
    columns_on (r ∷ rs) =
        let one = same_columns r.trace (row_list next r.column) in
        let others = columns_on rs in
        (λ i. sym one i ++ others i) ∙ sym (map-append (λ (r : Row). r.column) (on r) (flat_map on rs))

    pub chained_columns : behind_of next (row_columns from column) ≡ row_columns both column
    chained_columns = columns_on first_rows ∙ ap columns_of (rows_are both column all_rows chained_rows)

  pub chained_all : (columns : List (List Entry)) → Each (Each (λ e. Each (Shares e.weight) (chain (from e.value) next))) columns
      → behind_of next (behind_of from columns) ≡ behind_of both columns
  chained_all [] shares = refl
  chained_all (c ∷ cs) shares =
      let one = chained_columns c shares.0 in
      let others = chained_all cs shares.1 in
      flat_map-append (row_columns next) (row_columns from c) (behind_of from cs) ∙ (λ i. one i ++ others i)
