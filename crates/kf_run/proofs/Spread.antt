-- The columns behind columns, one after the other.
use Rattle.std.proofs.Common.{◌≡◌, ℕ, ◌+◌, ◌<◌, ◌≤◌, ◌^◌, List, [], ◌∷◌, ◌++◌, All, map, take, length, get_or, refl, sym, ap, subst, ◌∙◌, arith, append-nil}
use Rattle.std.specs.Prelude.{flat_map}
use Rattle.std.specs.List.{AllByRecursion as Each}
use Rattle.std.proofs.lemmas.List.{map-append, take_all, take_more}
use Rattle.std.proofs.lemmas.List.Elements.{All-from_recursion}
use Rattle.std.proofs.lemmas.List.Sums.{sum_by-append, sum_by_more_le}
use Rattle.std.proofs.lemmas.Grind.{flat_map-append}
use Rattle.std.proofs.lemmas.Slice.Zip.{all_zipped_more}
use Rattle.kf_value.proofs.ListLemmas.{each_append}
use Rattle.kf_column.specs.declared.entry.Entry.{Entry}
use Rattle.kf_column.specs.Columns.{total}
use Rattle.kf_column.specs.Joint.{IsJoint, mass}
use Rattle.kf_column.specs.Merged.{AreMerged}
use Rattle.kf_column.specs.Shapes.{IsBelow}
use Rattle.kf_column.specs.Traces.{Row}
use Rattle.kf_column.proofs.Beliefs.{merged_below}
use Rattle.kf_core.specs.Ready.{IsPushed, carried_cells}
use Rattle.kf_core.specs.Rows.{AreRowsOf}
use Rattle.kf_core.specs.Runs.{Run}
use Rattle.kf_push.proofs.Carrying.{behind_columns}
use Rattle.kf_run.specs.Spreading.{AreSpread}
use Rattle.kf_run.specs.Ways.{HasRows}

module _ (from : ℕ → List Run) (size : ℕ) where
  pub spread_none : AreSpread from size [] []
  spread_none = record { behind = record { rows = []; each = tt; is = refl }; fits = omega arith; below = tt }

  spread_one : (columns : List (List Entry)) (column : List Entry) (done now : List (List Entry)) → AreSpread from size columns done → HasRows from size column done now
      → AreSpread from size (columns ++ column ∷ []) now
  spread_one columns column done now had more =
      let rows = had.behind.rows in
      let new = map (λ (r : Row). r.column) more.rows in
      let flat : flat_map (λ there. there) (rows ++ more.rows ∷ []) ≡ flat_map (λ there. there) rows ++ more.rows =
      flat_map-append (λ (there : List Row). there) rows (more.rows ∷ []) ∙ ap (λ l. flat_map (λ there. there) rows ++ l) (append-nil more.rows) in
      let one : mass (column ∷ []) ≡ total column = omega arith in
      record {
        behind = record {
          rows = rows ++ more.rows ∷ [];
          each = all_zipped_more (λ column there. AreRowsOf (carried_cells from column) there) columns rows column more.rows had.behind.each more.are;
          is = more.is ∙ ap (λ l. l ++ new) had.behind.is ∙ sym (ap (map (λ (r : Row). r.column)) flat ∙ map-append (λ (r : Row). r.column) (flat_map (λ there. there) rows) more.rows);
        };
        fits =
            omega (
              arith,
              ap mass more.is,
              sum_by-append total done new,
              sum_by-append total columns (column ∷ []),
              one,
              had.fits,
              more.fits,
            );
        below = subst (Each (IsBelow size)) (sym more.is) (each_append (IsBelow size) done new had.below more.below);
      }

  -- the next column
  pub spread_more : (items columns : List (List Entry)) → items ≡ columns → (i : ℕ) (column : List Entry) → i < length items → column ≡ get_or items i column → (done now : List (List Entry))
      → AreSpread from size (take i columns) done → HasRows from size column done now → AreSpread from size (take (i + 1) columns) now
  spread_more items columns same i column within is done now had more =
      let grown : take (i + 1) items ≡ take i items ++ column ∷ [] = take_more items i column within ∙ ap (λ l. take i items ++ l ∷ []) (sym is) in
      subst (λ l. AreSpread from size l now) (subst (λ l. take i l ++ column ∷ [] ≡ take (i + 1) l) same (sym grown)) (spread_one (take i columns) column done now had more)

  -- and all of them
  pub spread_all : (items columns : List (List Entry)) → items ≡ columns → (i : ℕ) → length items ≤ i → (done : List (List Entry)) → AreSpread from size (take i columns) done → AreSpread from size columns done
  spread_all items columns same i past done had = subst (λ l. AreSpread from size l done) (take_all i columns (subst (λ l. length l ≤ i) same past)) had

  -- with those of one posterior added up
  pub spread_merged : (columns done after : List (List Entry)) → AreSpread from size columns done → AreMerged done after → IsPushed from columns after × All (IsBelow size) after
  spread_merged columns done after on merged = (
    record { behind = done; are_behind = on.behind; are_merged = merged },
    merged_below size done after (behind_columns from columns done on.behind) merged (All-from_recursion (IsBelow size) done on.below),
  )

  pub spread_joint : (scale : ℕ) (columns done : List (List Entry)) → AreSpread from size columns done → IsJoint (record { scale = scale; columns = columns }) → IsJoint (record { scale = scale; columns = done })
  spread_joint scale columns done on joint = record { some = joint.some; narrow = joint.narrow; fits = omega (arith, on.fits, joint.fits) }

module _ (items columns : List (List Entry)) (same : items ≡ columns) (i : ℕ) (column : List Entry) (within : i < length items) (is : column ≡ get_or items i column) where
  pub column_has : (P : List Entry → Type 0) → All P columns → P column
  column_has P all = subst P (sym is) (subst (All P) (sym same) all i column within)

  pub column_fits : (scale : ℕ) → IsJoint (record { scale = scale; columns = columns }) → total column < 2 ^ 128
  column_fits scale joint =
      let most = sum_by_more_le total items i column within in
      omega (arith, most, ap mass same, ap total is, joint.fits, joint.narrow)
