-- The rows of a multiple of a column are multiples of its rows, where all scales divide.
use Rattle.std.proofs.Common.{◌≡◌, ◌↔◌, ℕ, ◌+◌, ◌*◌, ◌<◌, List, [], ◌∷◌, Contains, map, refl, sym, ap, subst, ◌∙◌, arith}
use Rattle.std.specs.Prelude.{if◌then◌else◌}
use Rattle.std.specs.Int.{◌∣◌}
use Rattle.std.specs.List.{AllByRecursion as Each}
use Rattle.std.specs.List.Sorted.{IsStrictlySortedBy}
use Rattle.std.proofs.Math.Nat.{mul-zero}
use Rattle.std.proofs.lemmas.List.Elements.{All-map, All-weaker}
use Rattle.std.proofs.lemmas.List.Sums.{sum_by-cons}
use Rattle.kf_column.specs.declared.entry.Entry.{Entry}
use Rattle.kf_column.specs.Averages.{scaled}
use Rattle.kf_column.specs.Columns.{IsColumn, weight_at, total, proportional}
use Rattle.kf_column.specs.Hypers.{class_total}
use Rattle.kf_column.specs.Traces.{Row, trace_order}
use Rattle.kf_column.proofs.Scaling.{product_positive, weight_at-scaled, total-scaled, proportional-scaled, times_if}
use Rattle.kf_column.proofs.Weights.{Above, above_column, column_above}
use Rattle.kf_core.specs.Joint.{weight_of, trace_weight}
use Rattle.kf_core.specs.Ready.{carried_cells}
use Rattle.kf_core.specs.Rows.{AreRowsOf}
use Rattle.kf_core.specs.Runs.{Run}
use Rattle.kf_core.proofs.OneTable.{one_table}
use Rattle.kf_core.proofs.Sums.{second_positive}
use Rattle.kf_core.specs.Each.{HasTrace}
use Rattle.kf_push.proofs.CellWeights.{Trace, at_both, at_trace, weight_is, trace_weight_is, carried_times}
use Rattle.kf_push.proofs.RowColumns.{columns_of, row_list, row_columns, are_rows}

-- each run's scale divides the weight of the store from which it runs
abbrev pub Divides : (ℕ → List Run) → List Entry → Type 0
Divides from column = Each (λ e. Each (λ r. r.scale ∣ e.weight) (from e.value)) column

-- ---- multiples of columns

module _ (b : ℕ) (some : 0 < b) where
  scaled_above : (low : ℕ) (column : List Entry) → Above low column → Above low (map (scaled b) column)
  scaled_above low [] above = tt
  scaled_above low (e ∷ es) above = (above.0, product_positive b e.weight some above.1, scaled_above (e.value + 1) es above.2)

  scaled_some : (column : List Entry) → (column ≡ [] → ⊥) → map (scaled b) column ≡ [] → ⊥
  scaled_some [] some none = some refl
  scaled_some (e ∷ es) some none = (cc)

  pub scaled_column : (column : List Entry) → IsColumn column → IsColumn (map (scaled b) column)
  scaled_column column is = column_above 0 (map (scaled b) column) (scaled_above 0 column (above_column column is)) (scaled_some column is.some)

pub scaled_scaled : (a b : ℕ) (column : List Entry) → map (scaled a) (map (scaled b) column) ≡ map (scaled b) (map (scaled a) column)
scaled_scaled a b [] = refl
scaled_scaled a b (e ∷ es) =
    let weight : a * (b * e.weight) ≡ b * (a * e.weight) = omega arith in
    let others = scaled_scaled a b es in
    λ i. record { value = e.value; weight = weight i } ∷ others i

-- ---- multiples of rows

abbrev pub scale_row : ℕ → Row → Row
scale_row b r = record { trace = r.trace; column = map (scaled b) r.column }

same_traces : (b : ℕ) (rows : List Row) → map (λ (r : Row). r.trace) (map (scale_row b) rows) ≡ map (λ (r : Row). r.trace) rows
same_traces b [] = refl
same_traces b (r ∷ rs) = ap (λ ts. r.trace ∷ ts) (same_traces b rs)

pub class_total-cons : (c : List Entry) (cs : List (List Entry)) (inner : List Entry)
    → class_total (c ∷ cs) inner ≡ (if proportional c inner then total c else 0) + class_total cs inner
class_total-cons c cs inner = sum_by-cons (λ (c : List Entry). if proportional c inner then total c else 0) c cs

pub scaled_total : (b : ℕ) → 0 < b → (inner : List Entry) (rows : List Row)
    → class_total (columns_of (map (scale_row b) rows)) inner ≡ b * class_total (columns_of rows) inner
scaled_total b some inner [] = sym (mul-zero b)
scaled_total b some inner (r ∷ rs) =
    let f : List Entry → ℕ = λ c. if proportional c inner then total c else 0 in
    let here : f (map (scaled b) r.column) ≡ b * f r.column =
    (λ i. if proportional-scaled b r.column inner some i then total-scaled b r.column i else 0) ∙ times_if b (total r.column) (proportional r.column inner) in
    let others = scaled_total b some inner rs in
    let left = class_total-cons (map (scaled b) r.column) (columns_of (map (scale_row b) rs)) inner in
    let right = class_total-cons r.column (columns_of rs) inner in
    left ∙ ((λ i. here i + others i) ∙ omega arith) ∙ ap (λ n. b * n) (sym right)

module _ (from : ℕ → List Run) (b : ℕ) (some : 0 < b) (column : List Entry) (divides : Divides from column) where
  weight_times : (t : Trace) (x : ℕ) → weight_of (carried_cells from (map (scaled b) column)) t x ≡ b * weight_of (carried_cells from column) t x
  weight_times t x =
      weight_is (carried_cells from (map (scaled b) column)) t x ∙ carried_times (at_both t x) b from column divides
      ∙ ap (λ n. b * n) (sym (weight_is (carried_cells from column) t x))

  trace_times : (t : Trace) → trace_weight (carried_cells from (map (scaled b) column)) t ≡ b * trace_weight (carried_cells from column) t
  trace_times t =
      trace_weight_is (carried_cells from (map (scaled b) column)) t ∙ carried_times (at_trace t) b from column divides
      ∙ ap (λ n. b * n) (sym (trace_weight_is (carried_cells from column) t))

  has_same : (t : Trace) → HasTrace (carried_cells from column) t ↔ HasTrace (carried_cells from (map (scaled b) column)) t
  has_same t = (
    λ h. subst (λ n. 0 < n) (sym (trace_times t)) (product_positive b (trace_weight (carried_cells from column) t) some h),
    λ h. second_positive b (trace_weight (carried_cells from column) t) (subst (λ n. 0 < n) (trace_times t) h),
  )

  abbrev HasWeights : List Entry → Row → Type 0
  HasWeights c r = (x : ℕ) → weight_at r.column x ≡ weight_of (carried_cells from c) r.trace x

  pub rows_times : (rows : List Row) → AreRowsOf (carried_cells from column) rows
      → AreRowsOf (carried_cells from (map (scaled b) column)) (map (scale_row b) rows)
  rows_times rows are = record {
    ascending = subst (IsStrictlySortedBy trace_order) (sym (same_traces b rows)) are.ascending;
    all = λ t. (
      λ h. (has_same t).0 ((are.all t).0 (subst (λ ts. Contains ts t) (same_traces b rows) h)),
      λ h. subst (λ ts. Contains ts t) (sym (same_traces b rows)) ((are.all t).1 ((has_same t).1 h)),
    );
    columns = All-map (λ (r : Row). IsColumn r.column) (scale_row b) rows
        (All-weaker (λ (r : Row). IsColumn r.column) (λ (r : Row). IsColumn (map (scaled b) r.column))
        (λ r is. scaled_column b some r.column is) rows are.columns);
    weights = All-map (HasWeights (map (scaled b) column)) (scale_row b) rows
        (All-weaker (HasWeights column) (λ (r : Row). HasWeights (map (scaled b) column) (scale_row b r))
        (λ r w x. weight_at-scaled b r.column x ∙ ap (λ n. b * n) (w x) ∙ sym (weight_times r.trace x)) rows are.weights);
  }

-- ---- two multiples of one column

module _ (from : ℕ → List Run) (k : List Entry) (a b : ℕ) (some_a : 0 < a) (some_b : 0 < b) (c m : List Entry) (c_is : c ≡ map (scaled a) k)
    (m_is : m ≡ map (scaled b) k)
    (divides_c : Divides from c) (divides_m : Divides from m) where
  crossed : map (scaled a) m ≡ map (scaled b) c
  crossed = ap (map (scaled a)) m_is ∙ scaled_scaled a b k ∙ ap (map (scaled b)) (sym c_is)

  crossed_rows : map (scale_row b) (row_list from c) ≡ map (scale_row a) (row_list from m)
  crossed_rows =
      one_table (carried_cells from (map (scaled b) c)) (map (scale_row b) (row_list from c)) (map (scale_row a) (row_list from m))
      (rows_times from b some_b c divides_c (row_list from c) (are_rows from c))
      (subst (λ l. AreRowsOf (carried_cells from l) (map (scale_row a) (row_list from m))) crossed
      (rows_times from a some_a m divides_m (row_list from m) (are_rows from m)))

  pub crossed_totals : (inner : List Entry) → b * class_total (row_columns from c) inner ≡ a * class_total (row_columns from m) inner
  crossed_totals inner =
      sym (scaled_total b some_b inner (row_list from c)) ∙ ap (λ rows. class_total (columns_of rows) inner) crossed_rows
      ∙ scaled_total a some_a inner (row_list from m)
