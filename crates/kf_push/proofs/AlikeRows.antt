-- Rows depend on the weight of each trace and value alone; and the rows of runs that stay.
use Rattle.std.proofs.Common.{◌≡◌, ℕ, ◌+◌, ◌*◌, ◌/◌, ◌<◌, ◌==◌, ◌&&◌, cond, List, [], ◌∷◌, map, refl, sym, ap, subst, ◌∙◌, arith, inl, inr, eq-eqb}
use Rattle.std.specs.Cmp.Lexicographic.{pointwise}
use Rattle.std.specs.List.{AllByRecursion as Each, AllZip, flat_map}
use Rattle.std.proofs.Math.Nat.{one-mul, div-one}
use Rattle.std.proofs.lemmas.List.Elements.{All-weaker, All-from_recursion}
use Rattle.kf_value.specs.Values.{is_equal}
use Rattle.kf_value.proofs.Sorting.{sorted-nil, sorted-cons}
use Rattle.kf_column.specs.declared.entry.Entry.{Entry}
use Rattle.kf_column.specs.Columns.{IsColumn, weight_at, total}
use Rattle.kf_column.specs.Traces.{Row, trace_order}
use Rattle.kf_column.proofs.AtMostOne.{In}
use Rattle.kf_column.proofs.Scaling.{total_positive}
use Rattle.kf_core.specs.Joint.{Cell, cells, weight_of}
use Rattle.kf_core.specs.Pushing.{AreBehind}
use Rattle.kf_core.specs.Ready.{carried_cells}
use Rattle.kf_core.specs.Rows.{AreRowsOf}
use Rattle.kf_core.specs.Runs.{Run, stay}
use Rattle.kf_core.proofs.OneTable.{in_from_contains, contains_from_in}
use Rattle.kf_core.proofs.Stores.{lists_decide}
use Rattle.kf_core.proofs.Sums.{adds, each_is, sum_is}
use Rattle.kf_core.specs.Each.{HasTrace}
use Rattle.kf_push.proofs.BesideRows.{both_within}
use Rattle.kf_push.proofs.CellWeights.{Trace, Test, weighs, weight_by, at_both, at_trace, weight_is, trace_weight_is, carried_weigh}
use Rattle.kf_push.proofs.CellsFrom.{positive_part, part_within, cond_some}

-- ---- the same weights, the same rows

abbrev HasWeights : List Cell → Row → Type 0
HasWeights cs r = (x : ℕ) → weight_at r.column x ≡ weight_of cs r.trace x

module _ (cs ds : List Cell) (alike : (t : Trace) (x : ℕ) → weight_of cs t x ≡ weight_of ds t x) where
  pub alike_trace : (t : Trace) → HasTrace cs t → HasTrace ds t
  alike_trace t has =
      let c = positive_part (weighs (at_trace t)) cs (subst (λ n. 0 < n) (trace_weight_is cs t) has) in
      let told = cond_some (pointwise is_equal c.0.trace t) c.0.weight c.2 in
      let some = told.1 in
      let here : cond (pointwise is_equal c.0.trace t && (c.0.value == c.0.value)) c.0.weight 0 ≡ c.0.weight =
      (λ i. cond (told.0 i && (eq-eqb c.0.value c.0.value refl i)) c.0.weight 0) in
      let part = part_within (weighs (at_both t c.0.value)) cs c.0 c.1 in
      let left = weight_is cs t c.0.value in
      let right = weight_is ds t c.0.value in
      let same = alike t c.0.value in
      let within = both_within t c.0.value ds in
      let whole = trace_weight_is ds t in
      omega (arith, some, here, part, left, right, same, within, whole)

module _ (cs ds : List Cell) (alike : (t : Trace) (x : ℕ) → weight_of cs t x ≡ weight_of ds t x) where
  pub alike_rows : (rows : List Row) → AreRowsOf cs rows → AreRowsOf ds rows
  alike_rows rows are = record {
    ascending = are.ascending;
    all = λ t. (λ h. alike_trace cs ds alike t ((are.all t).0 h), λ h. (are.all t).1 (alike_trace ds cs (λ t x. sym (alike t x)) t h));
    columns = are.columns;
    weights = All-weaker (HasWeights cs) (HasWeights ds)
        (λ r h x. h x ∙ alike r.trace x) rows are.weights;
  }

module _ (from other : ℕ → List Run)
    (alike : (n w : ℕ) (t : Trace) (x : ℕ) → weight_of (cells (λ m. m) w (from n)) t x ≡ weight_of (cells (λ m. m) w (other n)) t x) where
  carried_alike : (column : List Entry) (t : Trace) (x : ℕ) → weight_of (carried_cells from column) t x ≡ weight_of (carried_cells other column) t x
  carried_alike column t x =
      weight_is (carried_cells from column) t x ∙ carried_weigh (at_both t x) from column
      ∙ each_is (λ e. weight_by (at_both t x) (cells (λ m. m) e.weight (from e.value)))
      (λ e. weight_by (at_both t x) (cells (λ m. m) e.weight (other e.value)))
      (λ e. sym (weight_is (cells (λ m. m) e.weight (from e.value)) t x) ∙ alike e.value e.weight t x
      ∙ weight_is (cells (λ m. m) e.weight (other e.value)) t x) column
      ∙ sym (weight_is (carried_cells other column) t x ∙ carried_weigh (at_both t x) other column)

  all_alike : (columns : List (List Entry)) (rows : List (List Row)) → AllZip (λ column there. AreRowsOf (carried_cells from column) there) columns rows
      → AllZip (λ column there. AreRowsOf (carried_cells other column) there) columns rows
  all_alike [] [] h = h
  all_alike [] (r ∷ rs) h = h
  all_alike (c ∷ cs) [] h = h
  all_alike (c ∷ cs) (r ∷ rs) h = (alike_rows (carried_cells from c) (carried_cells other c) (carried_alike c) r h.0, all_alike cs rs h.1)

  pub alike_behind : (columns behind : List (List Entry)) → AreBehind from columns behind → AreBehind other columns behind
  alike_behind columns behind b = record { rows = b.rows; each = all_alike columns b.rows b.each; is = b.is }

-- ---- runs that stay

whole_share : (w : ℕ) → 1 * w / 1 ≡ w
whole_share w = ap (λ n. n / 1) (one-mul w) ∙ div-one w

stay_weigh : (p : Test) (column : List Entry) → weight_by p (carried_cells stay column) ≡ adds (λ e. cond (p [] e.value) e.weight 0) column
stay_weigh p [] = refl
stay_weigh p (e ∷ es) = λ i. cond (p [] e.value) (whole_share e.weight i) 0 + stay_weigh p es i

abbrev stay_row : List Entry → Row
stay_row column = record { trace = []; column = column }

module _ (column : List Entry) (is : IsColumn column) where
  abbrev stay_cells : List Cell
  stay_cells = carried_cells stay column

  stay_has : HasTrace stay_cells []
  stay_has =
      let whole = trace_weight_is stay_cells [] ∙ stay_weigh (at_trace []) column in
      let same : adds (λ e. cond (pointwise is_equal [] []) e.weight 0) column ≡ total column =
      each_is (λ e. cond (pointwise is_equal [] []) e.weight 0) (λ e. e.weight) (λ e. refl) column ∙ sym (sum_is (λ (e : Entry). e.weight) column) in
      subst (λ n. 0 < n) (sym (whole ∙ same)) (total_positive column is)

  only_empty : (t : Trace) → HasTrace stay_cells t → t ≡ []
  only_empty t has =
      let e = positive_part (λ (e : Entry). cond (pointwise is_equal [] t) e.weight 0) column
      (subst (λ n. 0 < n) (trace_weight_is stay_cells t ∙ stay_weigh (at_trace t) column) has) in
      sym ((lists_decide [] t).0 (cond_some (pointwise is_equal [] t) e.0.weight e.2).0)

  in_empty : (t : Trace) → In t ([] ∷ []) → t ≡ []
  in_empty t (inl e) = e
  in_empty t (inr h) = absurd h

  stay_weight : (x : ℕ) → weight_at column x ≡ weight_of stay_cells [] x
  stay_weight x = sum_is (λ (e : Entry). cond (e.value == x) e.weight 0) column ∙ sym (weight_is stay_cells [] x ∙ stay_weigh (at_both [] x) column)

  stay_rows : AreRowsOf stay_cells (stay_row column ∷ [])
  stay_rows = record {
    ascending = sorted-cons trace_order [] [] tt (sorted-nil trace_order);
    all = λ t. (
      λ h. subst (HasTrace stay_cells) (sym (in_empty t (in_from_contains ([] ∷ []) t h))) stay_has,
      λ h. contains_from_in ([] ∷ []) t (inl (only_empty t h)),
    );
    columns = All-from_recursion (λ (r : Row). IsColumn r.column) (stay_row column ∷ []) (is, tt);
    weights = All-from_recursion (λ (r : Row). (x : ℕ) → weight_at r.column x ≡ weight_of stay_cells r.trace x) (stay_row column ∷ []) (stay_weight, tt);
  }

stays : (columns : List (List Entry)) → Each IsColumn columns
    → AllZip (λ column there. AreRowsOf (carried_cells stay column) there) columns (map (λ c. stay_row c ∷ []) columns)
stays [] are = tt
stays (c ∷ cs) are = (stay_rows c are.0, stays cs are.1)

same_list : (columns : List (List Entry)) → columns ≡ map (λ (r : Row). r.column) (flat_map (λ there. there) (map (λ c. stay_row c ∷ []) columns))
same_list [] = refl
same_list (c ∷ cs) = ap (λ l. c ∷ l) (same_list cs)

pub all_stay : (columns : List (List Entry)) → Each IsColumn columns → AreBehind stay columns columns
all_stay columns are = record { rows = map (λ c. stay_row c ∷ []) columns; each = stays columns are; is = same_list columns }
