-- Columns that are ready for statements can go through them, and no weight is lost there.
use Rattle.std.proofs.Common.{◌≡◌, ℕ, zero, suc, ◌+◌, ◌*◌, ◌/◌, ◌<◌, List, [], ◌∷◌, All, Result, Ok, Err, refl, sym, subst, ◌∙◌, arith, true≢false}
use Rattle.std.specs.Prelude.{IsOk, IsTrue, nat_eq, sum_by}
use Rattle.std.specs.Ordering.{nat_cmp}
use Rattle.std.specs.Int.{◌∣◌}
use Rattle.std.specs.List.{flat_map}
use Rattle.std.specs.FinSet.{from_list, contains, contains-from_list_nat}
use Rattle.std.proofs.Math.Nat.{mul-div_assoc, mul_comm, eq-zero_of_zero-dvd}
use Rattle.std.proofs.lemmas.Bool.{eqb-true, eq-eqb}
use Rattle.std.proofs.lemmas.List.Folds.{Any-from_list_any, list_any-from_Any}
use Rattle.std.proofs.lemmas.List.Elements.{All-head, All-tail}
use Rattle.kf_value.specs.Types.{TypeTree}
use Rattle.kf_column.specs.declared.entry.Entry.{Entry}
use Rattle.kf_column.specs.Columns.{IsColumn, values, total}
use Rattle.kf_column.specs.Joint.{mass}
use Rattle.kf_column.proofs.AtMostOne.{In}
use Rattle.kf_core.specs.Joint.{Cell, cell_of, cells}
use Rattle.kf_core.specs.Ready.{IsPushed, IsReady, carried_cells}
use Rattle.kf_core.specs.Runs.{Run, Halted, all_runs}
use Rattle.kf_core.specs.Sts.{StTree, sts}
use Rattle.kf_core.specs.Support.{StoreSet}
use Rattle.kf_core.specs.SupportLaws.{AllEnd, BlockAgrees}
use Rattle.kf_core.proofs.Measures.{Ends, end_value, RunsWithin, runs_value}
use Rattle.kf_core.proofs.OneTable.{in_from_contains, contains_from_in}
use Rattle.kf_core.proofs.Sums.{adds, adds_joined, sum_is}
use Rattle.kf_core.proofs.WeightKept.{all_weight, Keeps}
use Rattle.kf_push.specs.Following.{Takes, Goes}
use Rattle.kf_push.proofs.Carrying.{Runner, Matrix, goes_divide, pushed_mass}
use Rattle.kf_push.proofs.Members.{Every, ending, every_all, all_every, in_map, in_flat, of_map, of_flat}

-- ---- the stores of columns

stores_in : (ks : List ℕ) (n : ℕ) → IsTrue (contains (from_list {R = nat_cmp} ks) n) → In n ks
stores_in ks n h =
    let a = Any-from_list_any (λ y. nat_eq y n) ks (sym (contains-from_list_nat ks n) ∙ h) in
    subst (λ (m : ℕ). In m ks) (eqb-true a.1 n a.4) (in_from_contains ks a.1 (a.0, a.2, a.3))

in_stores : (ks : List ℕ) (n : ℕ) → In n ks → IsTrue (contains (from_list {R = nat_cmp} ks) n)
in_stores ks n h =
    let c = contains_from_in ks n h in
    contains-from_list_nat ks n ∙ list_any-from_Any (λ y. nat_eq y n) ks (c.0, n, c.1, c.2, eq-eqb n n refl)

-- what holds of each store of the columns with its weight
abbrev EachStore : (Entry → Type 0) → Matrix → Type 0
EachStore P columns = (column : List Entry) (e : Entry) → In column columns → In e column → P e

each_store : (P : Entry → Type 0) (columns : Matrix) → All (λ column. All P column) columns → EachStore P columns
each_store P columns h column e has is = all_every P column (all_every (λ column. All P column) columns h column has) e is

every_store : (P : Entry → Type 0) (columns : Matrix) → EachStore P columns → All (λ column. All P column) columns
every_store P columns h = every_all (λ column. All P column) columns (λ column has. every_all P column (λ e is. h column e has is))

-- each run from the store has a scale that divides the store's weight
abbrev Divided : Runner → Entry → Type 0
Divided from e = All (λ r. r.scale ∣ e.weight) (from e.value)

-- each run from the store takes its share
abbrev Taken : Runner → Entry → Type 0
Taken from e = All (Takes e.weight) (from e.value)

abbrev Ended : Run → Type 0
Ended r = IsOk r.end

-- ---- ready

divides_positive : (k w : ℕ) → k ∣ w → 0 < w → 0 < k
divides_positive zero w d p = absurd (omega (arith, p, eq-zero_of_zero-dvd d))
divides_positive (suc k) w d p = omega arith

module _ (agrees : BlockAgrees) (ts : List TypeTree) (turns : ℕ) (xs : List StTree) (columns : Matrix) where
  abbrev from : Runner
  from = all_runs ts turns (sts xs)

  abbrev stores : StoreSet
  stores = from_list (flat_map values columns)

  module _ (are : All IsColumn columns) (ready : IsReady ts turns xs columns) (column : List Entry) (e : Entry)
      (has : In column columns) (is : In e column) where
    all_divide : Every (λ (r : Run). r.scale ∣ e.weight) (from e.value)
    all_divide = all_every (λ (r : Run). r.scale ∣ e.weight) (from e.value) (each_store (Divided from) columns ready.divides column e has is)

    all_ended : Every Ended (from e.value)
    all_ended =
        let here = in_stores (flat_map values columns) e.value (in_flat values column e.value columns has (in_map (λ (e : Entry). e.value) e column is)) in
        all_every Ended (from e.value) (((agrees ts turns xs).clear stores).0 ready.clear e.value here)

    some_weight : 0 < e.weight
    some_weight = all_every (λ (e : Entry). 0 < e.weight) column (all_every IsColumn columns are column has).positive e is

    each_taken : Taken from e
    each_taken = every_all (Takes e.weight) (from e.value) (λ r of_r.
        record { positive = divides_positive r.scale e.weight (all_divide r of_r) some_weight; divides = all_divide r of_r; ends = all_ended r of_r })

  pub ready_takes : All IsColumn columns → IsReady ts turns xs columns → Goes from columns
  ready_takes are ready = every_store (Taken from) columns (each_taken are ready)

  pub takes_ready : Goes from columns → IsReady ts turns xs columns
  takes_ready goes = record {
    clear = ((agrees ts turns xs).clear stores).1 (λ n has.
        let c = of_flat values n columns (stores_in (flat_map values columns) n has) in
        let e = of_map (λ (e : Entry). e.value) n c.0 c.2 in
        let taken = all_every (Takes e.0.weight) (from e.0.value) (each_store (Taken from) columns goes c.0 e.0 c.1 e.1) in
        subst (λ (m : ℕ). AllEnd (from m)) (sym e.2) (every_all Ended (from e.0.value) (λ r of_r. (taken r of_r).ends)));
    divides = goes_divide from columns goes;
  }

-- ---- no weight is lost

module _ (w : ℕ) where
  ends_within : (x : Result ℕ Halted) (v : ℕ) → IsOk x → Ends (all_weight []) x v
  ends_within (Ok n) v ends = tt
  ends_within (Err f) v ends = absurd (true≢false (sym ends))

  takes_within : (rs : List Run) → All (Takes w) rs → RunsWithin all_weight [] w rs
  takes_within [] all = tt
  takes_within (r ∷ rs) all =
      let t = All-head (Takes w) r rs all in
      ((t.positive, t.divides, ends_within r.end (w / r.scale * r.weight) t.ends), takes_within rs (All-tail (Takes w) r rs all))

  cell_brings : (r : Run) (x : Result ℕ Halted) → r.scale ∣ w
      → adds (λ (c : Cell). c.weight) (cell_of (λ n. n) w (ending r x)) ≡ end_value (all_weight []) x (w / r.scale * r.weight)
  cell_brings r (Ok n) d = omega (arith, mul-div_assoc r.scale r.weight d ∙ mul_comm r.weight (w / r.scale))
  cell_brings r (Err f) d = refl

  cells_bring : (rs : List Run) → All (Takes w) rs → adds (λ (c : Cell). c.weight) (cells (λ n. n) w rs) ≡ runs_value all_weight [] w rs
  cells_bring [] all = refl
  cells_bring (r ∷ rs) all =
      let t = All-head (Takes w) r rs all in
      adds_joined (λ (c : Cell). c.weight) (cell_of (λ n. n) w r) (cells (λ n. n) w rs)
      ∙ (let one = cell_brings r r.end t.divides in let others = cells_bring rs (All-tail (Takes w) r rs all) in λ i. one i + others i)

module _ (from : Runner) (keeps : Keeps from) where
  column_kept : (column : List Entry) → All (Taken from) column
      → adds (λ (c : Cell). c.weight) (carried_cells from column) ≡ adds (λ (e : Entry). e.weight) column
  column_kept [] all = refl
  column_kept (e ∷ es) all =
      let one = All-head (Taken from) e es all in
      let head = cells_bring e.weight (from e.value) one ∙ keeps [] e.value e.weight (takes_within e.weight (from e.value) one) in
      let tail = column_kept es (All-tail (Taken from) e es all) in
      adds_joined (λ (c : Cell). c.weight) (cells (λ n. n) e.weight (from e.value)) (carried_cells from es) ∙ (λ i. head i + tail i)

  columns_kept : (columns : Matrix) → Goes from columns → adds (λ c. sum_by (λ (cell : Cell). cell.weight) (carried_cells from c)) columns ≡ adds total columns
  columns_kept [] goes = refl
  columns_kept (c ∷ cs) goes =
      let head = sum_is (λ (cell : Cell). cell.weight) (carried_cells from c)
      ∙ column_kept c (All-head (λ c. All (Taken from) c) c cs goes)
      ∙ sym (sum_is (λ (e : Entry). e.weight) c) in
      let tail = columns_kept cs (All-tail (λ c. All (Taken from) c) c cs goes) in
      λ i. head i + tail i

  pub mass_kept : (columns after : Matrix) → Goes from columns → IsPushed from columns after → mass after ≡ mass columns
  mass_kept columns after goes p =
      pushed_mass from columns after p
      ∙ sum_is (λ c. sum_by (λ (cell : Cell). cell.weight) (carried_cells from c)) columns
      ∙ columns_kept columns goes
      ∙ sym (sum_is total columns)
