-- The rows of a table, printed one after the other.
use Rattle.std.proofs.Common.{◌≡◌, ℕ, ◌+◌, ◌<◌, ◌≤◌, List, ◌++◌, length, map, drop, get_or, sym, ◌∙◌, ap, subst, append_assoc, arith}
use Rattle.std.specs.List.{flat_map}
use Rattle.std.proofs.lemmas.List.{get_or-map, length-map, drop-map}
use Rattle.std.proofs.lemmas.List.Sums.{get_or-le-sum_by}
use Rattle.kf_value.proofs.ListLemmas.{left_step}
use Rattle.kf_hyper.specs.declared.traces.TraceRow.{TraceRow}
use Rattle.kf_column.specs.Columns.{total}
use Rattle.kf_column.specs.Shapes.{IsBelow}
use Rattle.kf_column.specs.Traces.{Row}
use Rattle.kf_hyper.specs.Tables.{IsTable, table_row}

module _ (rows items : List TraceRow) (same : items ≡ rows) (k : ℕ) (row : TraceRow) (inside : k < length items) (is : row ≡ get_or items k row) where
  row_inside : k < length rows
  row_inside = subst (λ (rs : List TraceRow). k < length rs) same inside

  row_is : row ≡ get_or rows k row
  row_is = subst (λ (rs : List TraceRow). row ≡ get_or rs k row) same is

  mapped_inside : k < length (map table_row rows)
  mapped_inside = subst (λ (n : ℕ). k < n) (sym (length-map rows table_row)) row_inside

  here : get_or (map table_row rows) k (table_row row) ≡ table_row row
  here = get_or-map table_row rows k row (table_row row) row_inside ∙ ap table_row (sym row_is)

  pub row_below : (size scale : ℕ) → IsTable size scale (map table_row rows) → IsBelow size row.column
  row_below size scale table = subst (λ (r : Row). IsBelow size r.column) here (table.within k (table_row row) mapped_inside)

  pub row_narrow : (size scale : ℕ) → IsTable size scale (map table_row rows) → total row.column ≤ scale
  row_narrow size scale table =
      let sum = get_or-le-sum_by (λ (r : Row). total r.column) (map table_row rows) k (table_row row) mapped_inside in
      let this : total (get_or (map table_row rows) k (table_row row)).column ≡ total row.column = ap (λ (r : Row). total r.column) here in
      omega (arith, sum, this, table.whole)

  module _ (f : Row → List ℕ) where
    row_left : flat_map f (drop k (map table_row rows)) ≡ f (table_row row) ++ flat_map f (drop (k + 1) (map table_row rows))
    row_left =
        ap (flat_map f) (drop-map table_row k rows ∙ left_step table_row rows k row row_inside row_is)
        ∙ ap (λ (rs : List Row). f (table_row row) ++ flat_map f rs) (sym (drop-map table_row (k + 1) rows))

    -- what is left after a row brings the text to its end, as before
    pub row_printed : (out now whole : List ℕ) → now ≡ out ++ f (table_row row) → out ++ flat_map f (drop k (map table_row rows)) ≡ whole
        → now ++ flat_map f (drop (k + 1) (map table_row rows)) ≡ whole
    row_printed out now whole grown had =
        ap (λ (t : List ℕ). t ++ flat_map f (drop (k + 1) (map table_row rows))) grown
        ∙ append_assoc out (f (table_row row)) (flat_map f (drop (k + 1) (map table_row rows)))
        ∙ ap (λ (t : List ℕ). out ++ t) (sym row_left) ∙ had
