-- The columns behind each column, by its rows: what stands behind a list of columns is one list.
use Rattle.std.proofs.Common.{◌≡◌, ℕ, List, [], ◌∷◌, ◌++◌, map, sym, ap, ◌∙◌, refl}
use Rattle.std.specs.List.{AllByRecursion as Each, AllZip, flat_map}
use Rattle.std.proofs.lemmas.List.{map-append}
use Rattle.std.proofs.lemmas.List.Elements.{recursion_from_All}
use Rattle.kf_value.proofs.ListLemmas.{each_append, each_map}
use Rattle.kf_column.specs.declared.entry.Entry.{Entry}
use Rattle.kf_column.specs.Columns.{IsColumn}
use Rattle.kf_column.specs.Traces.{Row}
use Rattle.kf_core.specs.Pushing.{AreBehind}
use Rattle.kf_core.specs.Ready.{carried_cells}
use Rattle.kf_core.specs.Rows.{AreRowsOf}
use Rattle.kf_core.specs.Runs.{Run}
use Rattle.kf_core.proofs.RowsFound.{rows_exist}
use Rattle.kf_core.proofs.OneTable.{one_table}

abbrev pub columns_of : List Row → List (List Entry)
columns_of rows = map (λ r. r.column) rows

module _ (from : ℕ → List Run) where
  -- the rows of a column's cells
  pub row_list : List Entry → List Row
  row_list column = (rows_exist (carried_cells from column)).0

  pub are_rows : (column : List Entry) → AreRowsOf (carried_cells from column) (row_list column)
  unfolding row_list
  are_rows column = (rows_exist (carried_cells from column)).1

  pub rows_are : (column : List Entry) (rows : List Row) → AreRowsOf (carried_cells from column) rows → rows ≡ row_list column
  rows_are column rows are = one_table (carried_cells from column) rows (row_list column) are (are_rows column)

  abbrev pub row_columns : List Entry → List (List Entry)
  row_columns column = columns_of (row_list column)

  abbrev pub behind_of : List (List Entry) → List (List Entry)
  behind_of columns = flat_map row_columns columns

  all_rows : (columns : List (List Entry)) → AllZip (λ column there. AreRowsOf (carried_cells from column) there) columns (map row_list columns)
  all_rows [] = tt
  all_rows (c ∷ cs) = (are_rows c, all_rows cs)

  -- the columns of all rows, whose rows they are
  listed : (columns : List (List Entry)) (rows : List (List Row)) → AllZip (λ column there. AreRowsOf (carried_cells from column) there) columns rows
      → columns_of (flat_map (λ there. there) rows) ≡ behind_of columns
  listed [] [] h = refl
  listed [] (r ∷ rs) h = absurd h
  listed (c ∷ cs) [] h = absurd h
  listed (c ∷ cs) (r ∷ rs) h =
      let one : columns_of r ≡ row_columns c = ap columns_of (rows_are c r h.0) in
      let others = listed cs rs h.1 in
      map-append (λ (r : Row). r.column) r (flat_map (λ there. there) rs) ∙ (λ i. one i ++ others i)

  pub is_behind : (columns : List (List Entry)) → AreBehind from columns (behind_of columns)
  is_behind columns = record {
    rows = map row_list columns;
    each = all_rows columns;
    is = sym (listed columns (map row_list columns) (all_rows columns));
  }

  pub behind_is : (columns behind : List (List Entry)) → AreBehind from columns behind → behind ≡ behind_of columns
  behind_is columns behind b = b.is ∙ listed columns b.rows b.each

  rows_columns : (column : List Entry) → Each IsColumn (row_columns column)
  rows_columns column = each_map IsColumn (λ (r : Row). r.column) (row_list column)
      (recursion_from_All (λ (r : Row). IsColumn r.column) (row_list column) (are_rows column).columns)

  pub each_column : (columns : List (List Entry)) → Each IsColumn (behind_of columns)
  each_column [] = tt
  each_column (c ∷ cs) = each_append IsColumn (row_columns c) (behind_of cs) (rows_columns c) (each_column cs)
