-- Runs of which nothing is seen go where they went, and what stands behind them is one column for each: the sum of all that stood there.
use Rattle.std.proofs.Common.{◌≡◌, ℕ, ◌==◌, cond, List, [], ◌∷◌, ◌++◌, map, Result, Ok, Err, sum_by, inl, inr, refl, sym, ap, subst, ◌∙◌, append-nil}
use Rattle.std.specs.List.{AllByRecursion as Each}
use Rattle.std.proofs.lemmas.List.{map-append}
use Rattle.kf_value.specs.Values.{ValueTree}
use Rattle.kf_value.proofs.ListLemmas.{each_map, each_any}
use Rattle.kf_column.specs.declared.entry.Entry.{Entry}
use Rattle.kf_column.specs.Averages.{average_weight, joint_column, joint_weight}
use Rattle.kf_column.specs.Columns.{IsColumn, weight_at}
use Rattle.kf_column.specs.Hypers.{Inner}
use Rattle.kf_column.specs.Traces.{Row}
use Rattle.kf_column.proofs.AtMostOne.{In}
use Rattle.kf_column.proofs.Weighing.{averages_weigh, joint_column_weighs}
use Rattle.kf_core.specs.Joint.{Cell, cell_of, cells, weight_of}
use Rattle.kf_core.specs.Pushing.{AreBehind}
use Rattle.kf_core.specs.Ready.{IsPushed, carried_cells}
use Rattle.kf_core.specs.Runs.{Run, Halted, chain, joined}
use Rattle.kf_core.proofs.Measures.{Full}
use Rattle.kf_core.proofs.Sums.{adds, adds_mapped, each_is, sum_is}
use Rattle.kf_core.specs.Each.{onward}
use Rattle.kf_push.specs.Following.{Goes, Takes}
use Rattle.kf_silent.specs.Quiet.{hushed}
use Rattle.kf_silent.specs.Paths.{hush}
use Rattle.kf_push.proofs.Beginning.{SilentCells}
use Rattle.kf_push.proofs.Carrying.{Matrix, Runner, behind_columns, each_goes, goes_from_each}
use Rattle.kf_push.proofs.CellWeights.{at_both, weight_is, weighs}
use Rattle.kf_push.proofs.RowColumns.{are_rows, behind_is, row_columns, row_list}
use Rattle.kf_push.proofs.RowMass.{rows_at}
use Rattle.kf_push.proofs.SilentRows.{one_row, silent_row}
use Rattle.kf_push.proofs.Splitting.{Splits}

-- ---- where they go

module _ (next : Runner) where
  hushed_joined : (r : Run) (qs : List Run) → hushed (map (joined r) qs) ≡ map (joined (hush r)) (hushed qs)
  hushed_joined r [] = refl
  hushed_joined r (q ∷ qs) = ap (λ rs. hush (joined r q) ∷ rs) (hushed_joined r qs)

  hushed_onward : (r : Run) (x : Result ℕ Halted) → hushed (onward next r x) ≡ onward (λ n. hushed (next n)) (hush r) x
  hushed_onward r (Ok n) = hushed_joined r (next n)
  hushed_onward r (Err f) = refl

  pub hushed_chain : (rs : List Run) → hushed (chain rs next) ≡ chain (hushed rs) (λ n. hushed (next n))
  hushed_chain [] = refl
  hushed_chain (r ∷ rs) =
      let first = hushed_onward r r.end in
      let others = hushed_chain rs in
      map-append hush (onward next r r.end) (chain rs next) ∙ (λ i. first i ++ others i)

pub hushed_twice : (rs : List Run) → hushed (hushed rs) ≡ hushed rs
hushed_twice [] = refl
hushed_twice (r ∷ rs) = ap (λ qs. hush r ∷ qs) (hushed_twice rs)

pub hushed_full : (rs : List Run) → Full rs → Full (hushed rs)
hushed_full [] full = absurd full
hushed_full (r ∷ rs) full = tt

takes_hushed : (w : ℕ) (rs : List Run) → Each (Takes w) rs → Each (Takes w) (hushed rs)
takes_hushed w [] h = tt
takes_hushed w (r ∷ rs) h = (record { positive = h.0.positive; divides = h.0.divides; ends = h.0.ends }, takes_hushed w rs h.1)

takes_seen : (w : ℕ) (rs : List Run) → Each (Takes w) (hushed rs) → Each (Takes w) rs
takes_seen w [] h = tt
takes_seen w (r ∷ rs) h = (record { positive = h.0.positive; divides = h.0.divides; ends = h.0.ends }, takes_seen w rs h.1)

module _ (from other : Runner) (alike : (n : ℕ) → hushed (from n) ≡ hushed (other n)) where
  goes_one : (column : List Entry) → Each (λ e. Each (Takes e.weight) (from e.value)) column → Each (λ e. Each (Takes e.weight) (other e.value)) column
  goes_one [] h = tt
  goes_one (e ∷ es) h =
      (takes_seen e.weight (other e.value) (subst (Each (Takes e.weight)) (alike e.value) (takes_hushed e.weight (from e.value) h.0)), goes_one es h.1)

  goes_each : (columns : Matrix) → Each (Each (λ e. Each (Takes e.weight) (from e.value))) columns → Each (Each (λ e. Each (Takes e.weight) (other e.value))) columns
  goes_each [] h = tt
  goes_each (c ∷ cs) h = (goes_one c h.0, goes_each cs h.1)

  -- what goes along runs goes along others that differ in their traces alone
  pub goes_alike : (columns : Matrix) → Goes from columns → Goes other columns
  goes_alike columns goes = goes_from_each other columns (goes_each columns (each_goes from columns goes))

-- ---- their traces

hushed_silent : (rs : List Run) (r : Run) → In r (hushed rs) → r.trace ≡ []
hushed_silent [] r here = absurd here
hushed_silent (q ∷ qs) r (inl is) = ap (λ (p : Run). p.trace) is
hushed_silent (q ∷ qs) r (inr later) = hushed_silent qs r later

no_rest : (t u : List ValueTree) → t ++ u ≡ [] → u ≡ []
no_rest [] u h = h
no_rest (v ∷ t) u h = absurd (cc)

pub hushed_splits : (from : Runner) → Splits (λ n. hushed (from n))
hushed_splits from n m r q u has is ends stops goes = no_rest r.trace u (sym goes ∙ hushed_silent (from m) q is)

-- ---- their cells

abbrev hush_cell : Cell → Cell
hush_cell c = record { trace = []; value = c.value; weight = c.weight }

module _ (from : Runner) where
  abbrev quiet : Runner
  quiet n = hushed (from n)

  run_cell : (w : ℕ) (r : Run) (x : Result ℕ Halted) → r.end ≡ x → cell_of (λ n. n) w (hush r) ≡ map hush_cell (cell_of (λ n. n) w r)
  run_cell w r (Ok n) is = rw is refl
  run_cell w r (Err f) is = rw is refl

  runs_cells : (w : ℕ) (rs : List Run) → cells (λ n. n) w (hushed rs) ≡ map hush_cell (cells (λ n. n) w rs)
  runs_cells w [] = refl
  runs_cells w (r ∷ rs) =
      let one = run_cell w r r.end refl in
      let others = runs_cells w rs in
      (λ i. one i ++ others i) ∙ sym (map-append hush_cell (cell_of (λ n. n) w r) (cells (λ n. n) w rs))

  quiet_cells : (column : List Entry) → carried_cells quiet column ≡ map hush_cell (carried_cells from column)
  quiet_cells [] = refl
  quiet_cells (e ∷ es) =
      let one = runs_cells e.weight (from e.value) in
      let others = quiet_cells es in
      (λ i. one i ++ others i) ∙ sym (map-append hush_cell (cells (λ n. n) e.weight (from e.value)) (carried_cells from es))

  silent : (cs : List Cell) → SilentCells (map hush_cell cs)
  silent cs = each_map (λ (c : Cell). c.trace ≡ []) hush_cell cs (each_any (λ (c : Cell). (hush_cell c).trace ≡ []) (λ c. refl) cs)

  hushed_weight : (cs : List Cell) (x : ℕ) → weight_of (map hush_cell cs) [] x ≡ adds (λ d. cond (d.value == x) d.weight 0) cs
  hushed_weight cs x = weight_is (map hush_cell cs) [] x ∙ adds_mapped (weighs (at_both [] x)) hush_cell cs

  -- ---- the sum of what stands behind

  module _ (column : List Entry) (after : Matrix) (pushed : IsPushed from (column ∷ []) after) where
    abbrev behind : Matrix
    behind = pushed.behind

    behind_at : (x : ℕ) → sum_by (λ c. weight_at c x) behind ≡ adds (λ d. cond (d.value == x) d.weight 0) (carried_cells from column)
    behind_at x =
        ap (sum_by (λ c. weight_at c x)) (behind_is from (column ∷ []) behind pushed.are_behind ∙ append-nil (row_columns from column))
        ∙ sum_is (λ (c : List Entry). weight_at c x) (row_columns from column)
        ∙ adds_mapped (λ (c : List Entry). weight_at c x) (λ (r : Row). r.column) (row_list from column)
        ∙ rows_at (carried_cells from column) (row_list from column) x (are_rows from column)

    inners_at : (x : ℕ) (inners : List Inner) → sum_by (λ c. weight_at c x) (map joint_column inners) ≡ average_weight inners x
    inners_at x inners =
        sum_is (λ (c : List Entry). weight_at c x) (map joint_column inners)
        ∙ adds_mapped (λ (c : List Entry). weight_at c x) joint_column inners
        ∙ each_is (λ (i : Inner). weight_at (joint_column i) x) (joint_weight x) (λ i. joint_column_weighs i x) inners
        ∙ sym (sum_is (joint_weight x) inners)

    -- merging loses nothing
    after_at : (x : ℕ) → sum_by (λ c. weight_at c x) after ≡ adds (λ d. cond (d.value == x) d.weight 0) (carried_cells from column)
    after_at x =
        let m = pushed.are_merged in
        ap (sum_by (λ c. weight_at c x)) m.sums
        ∙ inners_at x m.inners
        ∙ averages_weigh behind m.inners (behind_columns from (column ∷ []) behind pushed.are_behind) m.is_hyper x
        ∙ behind_at x

    quiet_at : (x : ℕ) → sum_by (λ c. weight_at c x) after ≡ weight_of (carried_cells quiet column) [] x
    quiet_at x =
        after_at x ∙ sym (ap (λ cs. weight_of cs [] x) (quiet_cells column) ∙ hushed_weight (carried_cells from column) x)

    quiet_silent : SilentCells (carried_cells quiet column)
    quiet_silent = subst SilentCells (sym (quiet_cells column)) (silent (carried_cells from column))

    -- the sum of all that stands behind a column stands behind the runs of which nothing is seen
    pub sum_behind : (sum : List Entry) → IsColumn sum → ((x : ℕ) → weight_at sum x ≡ sum_by (λ c. weight_at c x) after)
        → AreBehind (λ n. hushed (from n)) (column ∷ []) (sum ∷ [])
    sum_behind sum is weights = record {
      rows = (silent_row sum ∷ []) ∷ [];
      each = (one_row (carried_cells quiet column) quiet_silent sum is (λ x. weights x ∙ quiet_at x), tt);
      is = refl;
    }
