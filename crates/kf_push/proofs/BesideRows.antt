-- The rows behind runs beside others, whose traces all come later: those of the first, and then those of the second.
use Rattle.std.proofs.Common.{◌≡◌, ℕ, zero, suc, ◌+◌, ◌<◌, ◌≤◌, ◌==◌, ◌&&◌, Bool, true, false, cond, List}
use Rattle.std.proofs.Common.{[], ◌∷◌, ◌++◌, Contains, IsOk, sym, ap, subst, ◌∙◌, arith, ◌⊎◌, inl, inr, ⊎_elim}
use Rattle.std.specs.Prelude.{if◌then◌else◌}
use Rattle.std.specs.Cmp.Lexicographic.{pointwise}
use Rattle.std.specs.List.{AllByRecursion as Each}
use Rattle.std.specs.List.Sorted.{IsStrictlySortedBy}
use Rattle.std.specs.declared.cmp.Ordering.TheVariants.{Less}
use Rattle.std.proofs.lemmas.Bool.{cases_eq}
use Rattle.std.proofs.lemmas.Grind.{flat_map-append}
use Rattle.std.proofs.lemmas.List.{map-append}
use Rattle.std.proofs.lemmas.List.Sums.{sum_by-append}
use Rattle.kf_value.specs.Values.{is_equal}
use Rattle.kf_value.proofs.ListLemmas.{each_weaker, each_append, each_map, each_any}
use Rattle.kf_value.proofs.Sorting.{sorted-append, Before}
use Rattle.kf_column.specs.declared.entry.Entry.{Entry}
use Rattle.kf_column.specs.Columns.{total, proportional}
use Rattle.kf_column.specs.Hypers.{class_total}
use Rattle.kf_column.specs.Traces.{Row, trace_order}
use Rattle.kf_column.proofs.AtMostOne.{In}
use Rattle.kf_core.specs.Joint.{Cell, cell_of, cells, weight_of, trace_weight}
use Rattle.kf_core.specs.Ready.{carried_cells}
use Rattle.kf_core.specs.Rows.{AreRowsOf}
use Rattle.kf_core.specs.Runs.{Run}
use Rattle.kf_core.proofs.OneTable.{in_from_contains, not_both_traces}
use Rattle.kf_core.proofs.Sums.{adds_both, adds_joined}
use Rattle.kf_core.specs.Each.{HasTrace}
use Rattle.kf_push.proofs.CellWeights.{Trace, Test, weighs, weight_by, at_both, at_trace, weight_is, trace_weight_is}
use Rattle.kf_push.proofs.CellsFrom.{IsTraceOf, IsRowOf, traces, trace_is, rows_told, rows_from}
use Rattle.kf_push.proofs.ChainedRows.{in_left, in_right}
use Rattle.kf_push.proofs.ClassesPushed.{brings, behind_total}
use Rattle.kf_push.proofs.RowColumns.{columns_of, row_list, row_columns, behind_of, are_rows, rows_are}

-- ---- a trace of no weight has none with any value

pub both_within : (t : Trace) (x : ℕ) (cs : List Cell) → weight_by (at_both t x) cs ≤ weight_by (at_trace t) cs
both_within t x [] = omega arith
both_within t x (c ∷ cs) =
    let one = part (pointwise is_equal c.trace t) (c.value == x) c.weight in
    let others = both_within t x cs in
    omega (arith, one, others)
  where
    part : (a b : Bool) (n : ℕ) → cond (a && b) n 0 ≤ cond a n 0
    part true true n = omega arith
    part true false n = omega arith
    part false b n = omega arith

none_with : (cs : List Cell) (t : Trace) (x : ℕ) → (HasTrace cs t → ⊥) → weight_of cs t x ≡ 0
none_with cs t x none =
    let within = both_within t x cs in
    let whole = trace_weight_is cs t in
    let part = weight_is cs t x in
    ⊎_elim
    (λ (e : weight_of cs t x ≡ 0). e)
    (λ (some : weight_of cs t x ≡ 0 → ⊥). absurd (none (omega (arith, within, whole, part, some))))
    (cases_eq (weight_of cs t x) 0)

either_some : (a b : ℕ) → 0 < a + b → (0 < a) ⊎ (0 < b)
either_some zero b some = inr (omega (arith, some))
either_some (suc a) b some = inl (omega arith)

module _ (from next : ℕ → List Run)
    (before : (n m : ℕ) (r q : Run) → Contains (from n) r → Contains (next m) q → IsOk r.end → IsOk q.end → trace_order r.trace q.trace ≡ Less) where
  abbrev beside : ℕ → List Run
  beside n = from n ++ next n

  beside_weigh : (p : Test) (column : List Entry) → weight_by p (carried_cells beside column)
      ≡ weight_by p (carried_cells from column) + weight_by p (carried_cells next column)
  beside_weigh p [] = omega arith
  beside_weigh p (e ∷ es) =
      let first = cells (λ n. n) e.weight (from e.value) in
      let second = cells (λ n. n) e.weight (next e.value) in
      let here : weight_by p (cells (λ n. n) e.weight (from e.value ++ next e.value)) ≡ weight_by p first + weight_by p second =
      ap (weight_by p) (flat_map-append (cell_of (λ n. n) e.weight) (from e.value) (next e.value)) ∙ adds_joined (weighs p) first second in
      let others = beside_weigh p es in
      let all = adds_joined (weighs p) (cells (λ n. n) e.weight (from e.value ++ next e.value)) (carried_cells beside es) in
      let left = adds_joined (weighs p) first (carried_cells from es) in
      let right = adds_joined (weighs p) second (carried_cells next es) in
      all ∙ ((λ i. here i + others i) ∙ omega arith) ∙ (λ i. sym left i + sym right i)

  trace_before : (t u : Trace) → IsTraceOf from t → IsTraceOf next u → trace_order t u ≡ Less
  trace_before t u a b = (λ i. trace_order (sym a.4 i) (sym b.4 i)) ∙ before a.0 b.0 a.1 b.1 a.2 b.2 a.3 b.3

  module _ (column : List Entry) where
    abbrev ours : List Cell
    ours = carried_cells from column

    abbrev theirs : List Cell
    theirs = carried_cells next column

    abbrev all_cells : List Cell
    all_cells = carried_cells beside column

    weights_add : (t : Trace) (x : ℕ) → weight_of all_cells t x ≡ weight_of ours t x + weight_of theirs t x
    weights_add t x = weight_is all_cells t x ∙ beside_weigh (at_both t x) column ∙ (λ i. sym (weight_is ours t x) i + sym (weight_is theirs t x) i)

    traces_add : (t : Trace) → trace_weight all_cells t ≡ trace_weight ours t + trace_weight theirs t
    traces_add t = trace_weight_is all_cells t ∙ beside_weigh (at_trace t) column ∙ (λ i. sym (trace_weight_is ours t) i + sym (trace_weight_is theirs t) i)

    not_both : (t : Trace) → HasTrace ours t → HasTrace theirs t → ⊥
    not_both t a b = let less = trace_before t t (trace_is from column t a) (trace_is next column t b) in not_both_traces t t less less

    abbrev rows : List Row
    rows = row_list from column ++ row_list next column

    first_fits : (r : Row) → IsRowOf ours r → IsRowOf all_cells r
    first_fits r h =
        let more = traces_add r.trace in
        let some = h.0 in
        let none : (x : ℕ) → weight_of theirs r.trace x ≡ 0 = λ x. none_with theirs r.trace x (not_both r.trace some) in
        (omega (arith, more, some), h.1, λ x. omega (arith, weights_add r.trace x, none x, h.2 x))

    second_fits : (r : Row) → IsRowOf theirs r → IsRowOf all_cells r
    second_fits r h =
        let more = traces_add r.trace in
        let some = h.0 in
        let none : (x : ℕ) → weight_of ours r.trace x ≡ 0 = λ x. none_with ours r.trace x (λ has. not_both r.trace has some) in
        (omega (arith, more, some), h.1, λ x. omega (arith, weights_add r.trace x, none x, h.2 x))

    first_told : Each (IsRowOf ours) (row_list from column)
    first_told = rows_told ours (row_list from column) (are_rows from column)

    second_told : Each (IsRowOf theirs) (row_list next column)
    second_told = rows_told theirs (row_list next column) (are_rows next column)

    all_fit : Each (IsRowOf all_cells) rows
    all_fit =
        each_append (IsRowOf all_cells) (row_list from column) (row_list next column)
        (each_weaker (IsRowOf ours) (IsRowOf all_cells) first_fits (row_list from column) first_told)
        (each_weaker (IsRowOf theirs) (IsRowOf all_cells) second_fits (row_list next column) second_told)

    traces_joined : traces rows ≡ traces (row_list from column) ++ traces (row_list next column)
    traces_joined = map-append (λ (r : Row). r.trace) (row_list from column) (row_list next column)

    in_order : Before trace_order (traces (row_list from column)) (traces (row_list next column))
    in_order =
        each_map (λ t. Each (λ u. trace_order t u ≡ Less) (traces (row_list next column))) (λ (r : Row). r.trace) (row_list from column)
        (each_weaker (IsRowOf ours) (λ r. Each (λ u. trace_order r.trace u ≡ Less) (traces (row_list next column)))
        (λ r h. each_map (λ u. trace_order r.trace u ≡ Less) (λ (s : Row). s.trace) (row_list next column)
        (each_weaker (IsRowOf theirs) (λ s. trace_order r.trace s.trace ≡ Less)
        (λ s k. trace_before r.trace s.trace (trace_is from column r.trace h.0) (trace_is next column s.trace k.0)) (row_list next column) second_told))
        (row_list from column) first_told)

    all_sorted : IsStrictlySortedBy trace_order (traces rows)
    all_sorted =
        subst (IsStrictlySortedBy trace_order) (sym traces_joined)
        (sorted-append trace_order (traces (row_list from column)) (traces (row_list next column)) (are_rows from column).ascending
        (are_rows next column).ascending in_order)

    found : (t : Trace) → HasTrace all_cells t → In t (traces rows)
    found t has =
        let ts = traces (row_list from column) in
        let us = traces (row_list next column) in
        subst (In t) (sym traces_joined)
        (⊎_elim
        (λ (a : HasTrace ours t). in_left t ts us (in_from_contains ts t (((are_rows from column).all t).1 a)))
        (λ (b : HasTrace theirs t). in_right t ts us (in_from_contains us t (((are_rows next column).all t).1 b)))
        (either_some (trace_weight ours t) (trace_weight theirs t) (subst (λ n. 0 < n) (traces_add t) has)))

    beside_rows : AreRowsOf all_cells rows
    beside_rows = rows_from all_cells rows all_sorted all_fit found

  module _ (inner : List Entry) where
    brings_both : (column : List Entry) → brings beside inner column ≡ brings from inner column + brings next inner column
    brings_both column =
        let same : row_columns beside column ≡ row_columns from column ++ row_columns next column =
        ap columns_of (sym (rows_are beside column (row_list from column ++ row_list next column) (beside_rows column)))
        ∙ map-append (λ (r : Row). r.column) (row_list from column) (row_list next column) in
        ap (λ l. class_total l inner) same ∙ sum_by-append (λ (c : List Entry). if proportional c inner then total c else 0) (row_columns from column)
        (row_columns next column)

    -- what the one and the other bring is what both bring
    pub beside_total : (columns : List (List Entry)) → class_total (behind_of beside columns) inner
        ≡ class_total (behind_of from columns) inner + class_total (behind_of next columns) inner
    beside_total columns =
        behind_total beside inner columns
        ∙ adds_both (brings from inner) (brings next inner) (brings beside inner) columns
        (each_any (λ c. brings beside inner c ≡ brings from inner c + brings next inner c) brings_both columns)
        ∙ (λ i. sym (behind_total from inner columns) i + sym (behind_total next inner columns) i)
