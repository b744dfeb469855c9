-- All rows together weigh what all cells weigh.
use Rattle.std.proofs.Common.{◌≡◌, ℕ, ◌+◌, ◌==◌, Bool, true, false, cond, List, [], ◌∷◌, refl, sym, ap, subst, ◌∙◌, arith, inl, inr, ⊎_elim}
use Rattle.std.specs.Prelude.{sum_by}
use Rattle.std.specs.Cmp.Lexicographic.{pointwise}
use Rattle.std.specs.List.{AllByRecursion as Each}
use Rattle.std.specs.List.Sorted.{IsStrictlySortedBy}
use Rattle.std.specs.declared.cmp.Ordering.TheVariants.{Less}
use Rattle.std.proofs.lemmas.Bool.{false_from_ne_true, cases_eq}
use Rattle.std.proofs.lemmas.List.Sums.{sum_by-cons, sum_by-append}
use Rattle.kf_value.specs.Values.{is_equal}
use Rattle.kf_value.proofs.ListLemmas.{each_weaker, each_any}
use Rattle.kf_value.proofs.Sorting.{sorted-head, sorted-tail}
use Rattle.kf_column.specs.declared.entry.Entry.{Entry}
use Rattle.kf_column.specs.Columns.{total, weight_at}
use Rattle.kf_column.specs.Joint.{mass}
use Rattle.kf_column.specs.Traces.{Row, trace_order}
use Rattle.kf_column.proofs.AtMostOne.{In}
use Rattle.kf_column.proofs.Weights.{above_column}
use Rattle.kf_core.specs.Joint.{Cell}
use Rattle.kf_core.specs.Ready.{carried_cells}
use Rattle.kf_core.specs.Rows.{AreRowsOf}
use Rattle.kf_core.specs.Runs.{Run}
use Rattle.kf_core.proofs.Measures.{Measure}
use Rattle.kf_core.proofs.OneTable.{in_from_contains, not_both_traces}
use Rattle.kf_core.proofs.Stores.{lists_decide}
use Rattle.kf_core.proofs.Sums.{adds, adds_mapped, adds_same, adds_nothing, each_is, sum_is}
use Rattle.kf_push.proofs.CellWeights.{Trace}
use Rattle.kf_push.proofs.CellsFrom.{IsRowOf, traces, rows_told, each_in, each_of, cell_trace}
use Rattle.kf_push.proofs.Gathers.{CellHolds, adds_swap, all_none, cell_value, trace_value, value_none}
use Rattle.kf_push.proofs.RowColumns.{row_list, row_columns, behind_of, are_rows}

apart : (t u : Trace) → trace_order t u ≡ Less → t ≡ u → ⊥
apart t u less e =
    let itself : trace_order u u ≡ Less = subst (λ (v : Trace). trace_order v u ≡ Less) e less in
    not_both_traces u u itself itself

none_if : (t u : Trace) (k : ℕ) → (t ≡ u → ⊥) → cond (pointwise is_equal t u) k 0 ≡ 0
none_if t u k other = ap (λ b. cond b k 0) (false_from_ne_true (pointwise is_equal t u) (λ h. other ((lists_decide t u).0 h)))

none_later : (t : Trace) (k : ℕ) (rows : List Row) → Each (λ u. trace_order t u ≡ Less) (traces rows)
    → adds (λ r. cond (pointwise is_equal t r.trace) k 0) rows ≡ 0
none_later t k [] h = refl
none_later t k (r ∷ rs) h = let here = none_if t r.trace k (apart t r.trace h.0) in let others = none_later t k rs h.1 in omega (arith, here, others)

-- a trace that stands among the rows stands there once
pub once : (t : Trace) (k : ℕ) (rows : List Row) → IsStrictlySortedBy trace_order (traces rows) → In t (traces rows)
    → adds (λ r. cond (pointwise is_equal t r.trace) k 0) rows ≡ k
once t k [] sorted here = absurd here
once t k (r ∷ rs) sorted (inl e) =
    let own : cond (pointwise is_equal t r.trace) k 0 ≡ k = ap (λ b. cond b k 0) ((lists_decide t r.trace).1 e) in
    let others = none_later t k rs (subst (λ (u : Trace). Each (λ v. trace_order u v ≡ Less) (traces rs)) (sym e)
    (sorted-head trace_order r.trace (traces rs) sorted)) in
    omega (arith, own, others)
once t k (r ∷ rs) sorted (inr later) =
    let less : trace_order r.trace t ≡ Less = each_in (λ u. trace_order r.trace u ≡ Less) (traces rs) t
    (sorted-head trace_order r.trace (traces rs) sorted) later in
    let here = none_if t r.trace k (λ e. apart r.trace t less (sym e)) in
    let others = once t k rs (sorted-tail trace_order r.trace (traces rs) sorted) later in
    omega (arith, here, others)

module _ (cs : List Cell) (rows : List Row) (are : AreRowsOf cs rows) where
  -- a cell's row is one, so that what stands for the cell stands there once
  pub cell_once : (d : Cell) (k : ℕ) → (d.weight ≡ 0 → k ≡ 0) → In d cs → adds (λ r. cond (pointwise is_equal d.trace r.trace) k 0) rows ≡ k
  cell_once d k nothing here =
      ⊎_elim
      (λ (none : d.weight ≡ 0).
      each_is (λ r. cond (pointwise is_equal d.trace r.trace) k 0) (λ r. 0) (λ r. all_none (pointwise is_equal d.trace r.trace) k (nothing none)) rows
      ∙ sym (adds_nothing rows) ∙ sym (nothing none))
      (λ (some : d.weight ≡ 0 → ⊥). once d.trace k rows are.ascending
      (in_from_contains (traces rows) d.trace ((are.all d.trace).1 (cell_trace cs d here (omega (arith, some))))))
      (cases_eq d.weight 0)

  -- what a measure gives to all rows is what it gives to all cells
  module _ (M : Measure) (holds : Each (CellHolds M) cs) where
    abbrev column_value : List Entry → ℕ
    column_value column = adds (λ (e : Entry). M.value e.value e.weight) column

    abbrev in_row : Row → Cell → ℕ
    in_row r d = cond (pointwise is_equal d.trace r.trace) (cell_value M d) 0

    row_value : Each (λ r. column_value r.column ≡ adds (in_row r) cs) rows
    row_value =
        each_weaker (IsRowOf cs) (λ r. column_value r.column ≡ adds (in_row r) cs)
        (λ r told. sym (trace_value M cs holds r.trace r.column (above_column r.column told.1) told.2)) rows
        (rows_told cs rows are)

    own_value : (d : Cell) → In d cs → adds (λ r. in_row r d) rows ≡ cell_value M d
    own_value d here =
        cell_once d (cell_value M d) (λ none. value_none M d.value d.weight none (each_in (CellHolds M) cs d holds here)) here

    pub rows_value : adds (λ r. adds (λ e. M.value e.value e.weight) r.column) rows ≡ adds (cell_value M) cs
    rows_value =
        adds_same (λ r. column_value r.column) (λ r. adds (in_row r) cs) rows row_value
        ∙ adds_swap in_row rows cs
        ∙ adds_same (λ d. adds (λ r. in_row r d) rows) (cell_value M) cs
        (each_of (λ d. adds (λ r. in_row r d) rows ≡ cell_value M d) cs own_value)

-- weight itself
abbrev weight_measure : Measure
weight_measure = record { holds = λ n w. Unit {0}; value = λ n w. w; closed = λ n a b h k. tt; linear = λ n a b h k. refl }

pub rows_mass : (cs : List Cell) (rows : List Row) → AreRowsOf cs rows → adds (λ r. total r.column) rows ≡ adds (λ d. d.weight) cs
rows_mass cs rows are =
    each_is (λ (r : Row). total r.column) (λ r. adds (λ (e : Entry). e.weight) r.column) (λ r. sum_is (λ (e : Entry). e.weight) r.column) rows
    ∙ rows_value cs rows are weight_measure (each_any (λ d. Unit {0}) (λ d. tt) cs)

-- the weight at one value
cond_plus : (b : Bool) (m n : ℕ) → cond b (m + n) 0 ≡ cond b m 0 + cond b n 0
cond_plus true m n = refl
cond_plus false m n = refl

abbrev value_measure : ℕ → Measure
value_measure x = record { holds = λ n w. Unit {0}; value = λ n w. cond (n == x) w 0; closed = λ n a b h k. tt; linear = λ n a b h k. cond_plus (n == x) a b }

-- all rows together give a value what all cells give it
pub rows_at : (cs : List Cell) (rows : List Row) (x : ℕ) → AreRowsOf cs rows
    → adds (λ r. weight_at r.column x) rows ≡ adds (λ d. cond (d.value == x) d.weight 0) cs
rows_at cs rows x are =
    each_is (λ (r : Row). weight_at r.column x) (λ r. adds (λ (e : Entry). cond (e.value == x) e.weight 0) r.column)
    (λ r. sum_is (λ (e : Entry). cond (e.value == x) e.weight 0) r.column) rows
    ∙ rows_value cs rows are (value_measure x) (each_any (λ d. Unit {0}) (λ d. tt) cs)

pub behind_mass : (from : ℕ → List Run) (columns : List (List Entry))
    → mass (behind_of from columns) ≡ sum_by (λ c. sum_by (λ cell. cell.weight) (carried_cells from c)) columns
behind_mass from [] = refl
behind_mass from (c ∷ cs) =
    let one : sum_by total (row_columns from c) ≡ sum_by (λ (cell : Cell). cell.weight) (carried_cells from c) =
    sum_is total (row_columns from c) ∙ adds_mapped total (λ (r : Row). r.column) (row_list from c)
    ∙ rows_mass (carried_cells from c) (row_list from c) (are_rows from c)
    ∙ sym (sum_is (λ (cell : Cell). cell.weight) (carried_cells from c)) in
    sum_by-append total (row_columns from c) (behind_of from cs) ∙ (λ i. one i + behind_mass from cs i)
    ∙ sym (sum_by-cons (λ (c : List Entry). sum_by (λ (cell : Cell). cell.weight) (carried_cells from c)) c cs)
