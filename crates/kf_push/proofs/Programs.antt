-- What holds of columns pushed through a whole program: how they begin, and what hyper they come to.
use Rattle.std.proofs.Common.{◌≡◌, ℕ, ◌+◌, ◌<◌, ◌≤◌, List, [], ◌∷◌, ◌++◌, Some, length, map, take, drop, get_or, slice_get, IsOk, All, refl, sym, ap, subst, ◌∙◌, arith, append-nil}
use Rattle.std.specs.Prelude.{sum_by}
use Rattle.std.specs.Int.{◌∣◌}
use Rattle.std.specs.List.{AllByRecursion as Each, AllZip, flat_map}
use Rattle.std.proofs.Math.Nat.{add-zero, one-dvd}
use Rattle.std.proofs.lemmas.List.{take-append-drop}
use Rattle.std.proofs.lemmas.List.Elements.{All-cons, All-nil, All-head, All-from_recursion, recursion_from_All}
use Rattle.std.proofs.lemmas.Option.{slice_get_within}
use Rattle.kf_column.specs.declared.entry.Entry.{Entry}
use Rattle.kf_column.specs.Columns.{IsColumn, weight_at}
use Rattle.kf_column.specs.Hypers.{Inner, IsHyper}
use Rattle.kf_column.specs.Joint.{mass}
use Rattle.kf_column.specs.Merged.{AreMerged}
use Rattle.kf_column.specs.Traces.{Row}
use Rattle.kf_column.proofs.Weights.{above_column, column_above, same_column}
use Rattle.kf_core.specs.Checked.{IsChecked}
use Rattle.kf_core.specs.ChoiceLaws.{ChoicesAreShares}
use Rattle.kf_core.specs.Dxs.{DxTree}
use Rattle.kf_core.specs.Joint.{Cell, cells, joint_of, target_number, weight_of}
use Rattle.kf_core.specs.Programs.{ProgramTree}
use Rattle.kf_core.specs.Pushing.{AreBehind}
use Rattle.kf_core.specs.Ready.{DivideAlong, IsPushed, IsStart, carried_cells}
use Rattle.kf_core.specs.Rows.{AreRowsOf, IsHyperOf}
use Rattle.kf_core.specs.Runs.{Run, all_runs, assigned, chain, copied, declared, program_runs, stay}
use Rattle.kf_core.specs.Scale.{scale_of}
use Rattle.kf_core.specs.Sts.{sts}
use Rattle.kf_core.specs.Support.{program_pass}
use Rattle.kf_core.specs.SupportLaws.{CommonScaleIsLeast, ProgramAgrees, RunsChain, ScalesArePositive}
use Rattle.kf_core.proofs.Filled.{DeclsSolid, all_full, chain_full, declared_full}
use Rattle.kf_core.proofs.Measures.{Full, RunsWithin, chain_runs, each_right, stay_value}
use Rattle.kf_core.proofs.Solid.{all_solid, decls_solid}
use Rattle.kf_core.proofs.Sums.{sum_is}
use Rattle.kf_core.proofs.WeightKept.{Keeps, all_weight, chain_keeps, decls_keep}
use Rattle.kf_core.proofs.WholeJoint.{within}
use Rattle.kf_core.specs.Leaks.{silent}
use Rattle.kf_push.specs.Following.{Goes, Takes}
use Rattle.kf_push.specs.Merging.{SplitsOnce}
use Rattle.kf_push.proofs.Beginning.{some_weight, takes, carried_before, cells_keep, cells_silent, has_silent, one_silent_row}
use Rattle.kf_column.proofs.Beliefs.{some_merged}
use Rattle.kf_push.proofs.Carrying.{Runner, Matrix, chained, commutes, goes_behind, goes_divide, pushed_chain, pushed_mass, pushed_stay, some_behind, some_pushed, behind_columns}
use Rattle.kf_push.proofs.Declaring.{Silent, chain_silent, declared_next, declared_parted, declared_silent, silent_splits}
use Rattle.kf_push.proofs.OneColumn.{merged_one}
use Rattle.kf_push.proofs.Renaming.{cells_renamed, chain_renamed, chain_stays, renamed, renamed_chain, renamed_divide}
use Rattle.kf_push.proofs.Statements.{blocks_split, goes_first}

-- all weight lies on the first store
abbrev pub whole_on_first : ℕ → List Entry
whole_on_first whole = record { value = 0; weight = whole } ∷ []

-- the declarations, and then the carried copies
abbrev pub begins : ProgramTree → Runner
begins p n = chain (declared p.types 0 p.decls n) (λ m. stay (copied p m))

-- what the runs from the first store take
goes_from_first : (whole : ℕ) (from : Runner) → Each (Takes whole) (from 0) → Goes from (whole_on_first whole ∷ [])
goes_from_first whole from h =
    let e : Entry = record { value = 0; weight = whole } in
    All-cons (λ column. All (λ e. All (Takes e.weight) (from e.value)) column) (e ∷ []) []
    (All-cons (λ e. All (Takes e.weight) (from e.value)) e [] (All-from_recursion (Takes whole) (from 0) h)
    (All-nil (λ e. All (Takes e.weight) (from e.value))))
    (All-nil (λ column. All (λ e. All (Takes e.weight) (from e.value)) column))

-- ---- what divides along runs

along_any : (from : Runner) (columns : Matrix) → ((e : Entry) → All (λ r. r.scale ∣ e.weight) (from e.value)) → DivideAlong from columns
along_any from columns each k c here j e there = each (get_or (get_or columns k c) j e)

-- runs that are numbered anew keep their scales
renamed_along : (f : ℕ → ℕ) (from : Runner) (columns : Matrix) → DivideAlong from columns → DivideAlong (λ n. map (renamed f) (from n)) columns
renamed_along f from columns h k c here j e there =
    let d = get_or (get_or columns k c) j e in
    All-from_recursion (λ (r : Run). r.scale ∣ d.weight) (map (renamed f) (from d.value))
    (renamed_divide f d.weight (from d.value) (recursion_from_All (λ (r : Run). r.scale ∣ d.weight) (from d.value) (h k c here j e there)))

module _ (turns : ℕ) (p : ProgramTree) (checked : IsChecked p) (clear : IsOk (program_pass turns p))
    (shares : ChoicesAreShares) (agrees : ProgramAgrees) (sequence : RunsChain) (scales : ScalesArePositive) (least : CommonScaleIsLeast) where
  abbrev whole : ℕ
  whole = scale_of turns p

  abbrev first : Matrix
  first = whole_on_first whole ∷ []

  abbrev body : Runner
  body = all_runs p.types turns (sts p.body)

  pub whole_some : 0 < scale_of turns p
  whole_some = (least (program_runs turns p) (scales turns p)).positive

  pub first_column : All IsColumn (whole_on_first (scale_of turns p) ∷ [])
  first_column =
      All-cons IsColumn (whole_on_first whole) [] (column_above 0 (whole_on_first whole) (omega arith, whole_some, tt) (λ e. absurd (cc))) (All-nil IsColumn)

  -- before the first declaration it lies there
  pub declared_none : IsPushed (declared p.types 0 (take 0 p.decls)) (whole_on_first (scale_of turns p) ∷ []) (whole_on_first (scale_of turns p) ∷ [])
  declared_none =
      let m = some_merged first first_column in
      let is = merged_one (whole_on_first whole) m.0 (All-head IsColumn (whole_on_first whole) [] first_column) m.1 in
      pushed_stay first first first_column (subst (AreMerged first) is m.1)

  -- ---- what can go

  body_full : (n : ℕ) → Full (body n)
  body_full n = all_full p.types turns (sts p.body) (all_solid p.types _ checked.sound) n

  whole_runs : (next : Runner) → chain (begins p 0) next ≡ chain (declared p.types 0 p.decls 0) (λ n. next (copied p n))
  whole_runs next =
      ap (λ rs. chain rs next) (chain_stays (copied p) (declared p.types 0 p.decls 0)) ∙ chain_renamed (copied p) next (declared p.types 0 p.decls 0)

  carried : RunsWithin some_weight [] whole (chain (begins p 0) body)
  carried =
      subst (λ rs. RunsWithin some_weight [] whole rs) (sym (whole_runs body)) (within shares agrees scales least turns p clear some_weight (λ t n w h. h))

  pub whole_goes : Goes (λ n. chain (begins p n) (all_runs p.types turns (sts p.body))) (whole_on_first (scale_of turns p) ∷ [])
  whole_goes = goes_from_first whole (λ n. chain (begins p n) body) (takes some_weight [] whole (chain (begins p 0) body) carried)

  begins_goes : Goes (begins p) first
  begins_goes = goes_first (begins p) body first body_full whole_goes

  decls_goes : Goes (declared p.types 0 p.decls) first
  decls_goes = goes_first (declared p.types 0 p.decls) (λ m. stay (copied p m)) first (λ n. tt) begins_goes

  others_solid : (k : ℕ) → DeclsSolid p.types (drop k p.decls)
  others_solid k =
      each_right _ (take k p.decls) (drop k p.decls) (subst (DeclsSolid p.types) (sym (take-append-drop k p.decls)) (decls_solid p checked))

  part_goes : (k : ℕ) → k ≤ length p.decls → Goes (declared p.types 0 (take k p.decls)) first
  part_goes k inside =
      goes_first (declared p.types 0 (take k p.decls)) (declared p.types k (drop k p.decls)) first
      (declared_full p.types k (drop k p.decls) (others_solid k))
      (subst (λ (from : Runner). Goes from first) (λ i n. declared_parted sequence p.types p.decls k inside n i) decls_goes)

  decls_split : (i : ℕ) (ds : List DxTree) → SplitsOnce (declared p.types i ds)
  decls_split i ds = silent_splits (declared p.types i ds) (declared_silent p.types i ds)

  -- ---- declarations

  module _ (i : ℕ) (d : DxTree) (here : slice_get p.decls i ≡ Some d) where
    inside : i < length p.decls
    inside = slice_get_within p.decls i d here

    abbrev before : Runner
    before = declared p.types 0 (take i p.decls)

    one_more : declared p.types 0 (take (i + 1) p.decls) ≡ (λ n. chain (before n) (assigned silent p.types i d))
    one_more = λ j n. declared_next sequence p.types p.decls i (let h = inside in omega arith) d here n j

    next_goes : Goes (λ n. chain (before n) (assigned silent p.types i d)) first
    next_goes = subst (λ (from : Runner). Goes from first) one_more (part_goes (i + 1) (let h = inside in omega arith))

    this_goes : Goes before first
    this_goes = part_goes i (let h = inside in omega arith)

  -- the whole weight can go through the declarations, one after the other
  pub declared_goes : (i : ℕ) (d : DxTree) (now : Matrix) → slice_get p.decls i ≡ Some d
      → IsPushed (declared p.types 0 (take i p.decls)) (whole_on_first (scale_of turns p) ∷ []) now → Goes (assigned silent p.types i d) now
  declared_goes i d now is pushed = goes_behind (before i d is) (assigned silent p.types i d) first now first_column (this_goes i d is) (next_goes i d is) pushed

  pub declared_more : (i : ℕ) (d : DxTree) (now next : Matrix) → slice_get p.decls i ≡ Some d
      → IsPushed (declared p.types 0 (take i p.decls)) (whole_on_first (scale_of turns p) ∷ []) now → IsPushed (assigned silent p.types i d) now next
      → IsPushed (declared p.types 0 (take (i + 1) p.decls)) (whole_on_first (scale_of turns p) ∷ []) next
  declared_more i d now next is pushed step =
      subst (λ (from : Runner). IsPushed from first next) (sym (one_more i d is))
      (pushed_chain (before i d is) (assigned silent p.types i d) first now next (decls_split 0 (take i p.decls)) first_column (this_goes i d is)
      (next_goes i d is) pushed step)

  -- ---- the start

  begins_silent : (n : ℕ) → Silent (begins p n)
  begins_silent n = chain_silent (λ m. stay (copied p m)) (λ m. (refl, tt)) (declared p.types 0 p.decls n) (declared_silent p.types 0 p.decls n)

  begins_full : Full (begins p 0)
  begins_full = chain_full (λ m. stay (copied p m)) (λ n. tt) (declared p.types 0 p.decls 0) (declared_full p.types 0 p.decls (decls_solid p checked) 0)

  begins_carried : RunsWithin some_weight [] whole (begins p 0)
  begins_carried = carried_before body body_full [] whole (begins p 0) (chain_runs some_weight [] whole body body_full (begins p 0) carried).0

  start_cells : carried_cells (begins p) (whole_on_first whole) ≡ cells (copied p) whole (declared p.types 0 p.decls 0)
  start_cells =
      append-nil (cells (λ n. n) whole (begins p 0))
      ∙ (ap (λ rs. cells (λ n. n) whole rs) (chain_stays (copied p) (declared p.types 0 p.decls 0))
      ∙ cells_renamed (copied p) whole (declared p.types 0 p.decls 0))

  -- these columns are one, and it is the start
  abbrev Starts : Matrix → Type 0
  Starts columns = (column : List Entry) × (columns ≡ column ∷ []) × IsStart turns p column

  one_start : (there : List Row) → AreRowsOf (carried_cells (begins p) (whole_on_first whole)) there → Starts (map (λ (r : Row). r.column) (there ++ []))
  one_start there are =
      let cs = cells (λ n. n) whole (begins p 0) in
      let rows = subst (λ joint. AreRowsOf joint there) (append-nil cs) are in
      let one = one_silent_row cs (cells_silent (λ n. n) whole (begins p 0) (begins_silent 0)) there
      (has_silent (λ n. n) whole (begins p 0) begins_full (begins_silent 0) begins_carried) rows in
      let row = one.0 in
      let joint = carried_cells (begins p) (whole_on_first whole) in
      let only = subst (λ rs. AreRowsOf joint rs) one.1 are in (
        row.column,
        ap (λ rs. map (λ (r : Row). r.column) (rs ++ [])) one.1,
        record {
          is_column = All-head (λ (r : Row). IsColumn r.column) row [] only.columns;
          weights = λ n.
              All-head (λ (r : Row). (x : ℕ) → weight_at r.column x ≡ weight_of joint r.trace x) row [] only.weights n
              ∙ (λ i. weight_of (start_cells i) (one.2 i) n);
        },
      )

  start_rows : (behind : Matrix) (rows : List (List Row)) → AllZip (λ column there. AreRowsOf (carried_cells (begins p) column) there) first rows
      → behind ≡ map (λ (r : Row). r.column) (flat_map (λ there. there) rows) → Starts behind
  start_rows behind [] each is = absurd each
  start_rows behind (there ∷ []) each is = subst Starts (sym is) (one_start there each.0)
  start_rows behind (there ∷ other ∷ rows) each is = absurd each.1

  begun : (behind : Matrix) → AreBehind (begins p) first behind → Starts behind
  begun behind b = start_rows behind b.rows b.each b.is

  begun_merged : (after : Matrix) → IsPushed (begins p) first after → Starts after
  begun_merged after pushed =
      let b = begun pushed.behind pushed.are_behind in
      (b.0, merged_one b.0 after b.2.is_column (subst (λ columns. AreMerged columns after) b.1 pushed.are_merged), b.2)

  same_start : (one other : List Entry) → IsStart turns p one → IsStart turns p other → one ≡ other
  same_start one other a b = same_column 0 one other (above_column one a.is_column) (above_column other b.is_column) (λ x. a.weights x ∙ sym (b.weights x))

  -- behind the copies there is one column, and it is the start
  pub start_made : (now after : Matrix) → IsPushed (declared p.types 0 p.decls) (whole_on_first (scale_of turns p) ∷ []) now
      → IsPushed (λ n. stay (copied p n)) now after → (column : List Entry) × (after ≡ column ∷ []) × IsStart turns p column
  start_made now after pushed step =
      begun_merged after (pushed_chain (declared p.types 0 p.decls) (λ m. stay (copied p m)) first now after
      (decls_split 0 p.decls) first_column decls_goes begins_goes pushed step)

  module _ (column : List Entry) (start : IsStart turns p column) where
    start_behind : AreBehind (begins p) first (column ∷ [])
    start_behind =
        let b = some_behind (begins p) first in
        let s = begun b.0 b.1 in
        subst (λ columns. AreBehind (begins p) first columns) (s.1 ∙ ap (λ c. c ∷ []) (same_start s.0 column s.2 start)) b.1

    -- the joint of the declarations has the start as its one row
    rows_begun : (rows : List (List Row)) → AllZip (λ column there. AreRowsOf (carried_cells (begins p) column) there) first rows
        → column ∷ [] ≡ map (λ (r : Row). r.column) (flat_map (λ there. there) rows)
        → (there : List Row) × AreRowsOf (cells (copied p) whole (declared p.types 0 p.decls 0)) there × (map (λ (r : Row). r.column) there ≡ column ∷ [])
    rows_begun [] each is = absurd each
    rows_begun (there ∷ []) each is =
        (there, subst (λ joint. AreRowsOf joint there) start_cells each.0, sym (is ∙ ap (map (λ (r : Row). r.column)) (append-nil there)))
    rows_begun (there ∷ other ∷ rows) each is = absurd each.1

    pub begun_rows : (rows : List Row) × AreRowsOf (cells (copied p) (scale_of turns p) (declared p.types 0 p.decls 0)) rows × (map (λ (r : Row). r.column) rows ≡ column ∷ [])
    begun_rows = rows_begun start_behind.rows start_behind.each start_behind.is

    start_pushed : IsPushed (begins p) first (column ∷ [])
    start_pushed =
        let b = some_pushed (begins p) first in
        let s = begun_merged b.0 b.1 in
        subst (λ columns. IsPushed (begins p) first columns) (s.1 ∙ ap (λ c. c ∷ []) (same_start s.0 column s.2 start)) b.1

    column_is : All IsColumn (column ∷ [])
    column_is = All-cons IsColumn column [] start.is_column (All-nil IsColumn)

  -- where the whole can go through the beginning and what comes next, the start can go through this
  pub start_along : (next : Runner) (column : List Entry) → IsStart turns p column
      → Goes (λ n. chain (begins p n) next) (whole_on_first (scale_of turns p) ∷ []) → Goes next (column ∷ [])
  start_along next column start goes = goes_behind (begins p) next first (column ∷ []) first_column begins_goes goes (start_pushed column start)

  -- the start can go through all statements
  pub start_goes : (column : List Entry) → IsStart turns p column → Goes (all_runs p.types turns (sts p.body)) (column ∷ [])
  start_goes column start = start_along body column start whole_goes

  begins_keep : Keeps (begins p)
  begins_keep =
      let solid = decls_solid p checked in
      chain_keeps (λ m. stay (copied p m)) (λ t n v within. stay_value all_weight t v (copied p n)) (declared p.types 0 p.decls) (λ n. tt)
      (decls_keep p.types 0 p.decls solid)

  -- the start weighs the whole
  pub start_mass : (column : List Entry) → IsStart turns p column → mass (column ∷ []) ≡ scale_of turns p
  start_mass column start =
      let cs = carried_cells (begins p) (whole_on_first whole) in
      let kept = ap (sum_by (λ (c : Cell). c.weight)) (append-nil (cells (λ n. n) whole (begins p 0)))
      ∙ cells_keep whole (begins p) begins_keep begins_carried in
      pushed_mass (begins p) first (column ∷ []) (start_pushed column start)
      ∙ (sum_is (λ c. sum_by (λ (cell : Cell). cell.weight) (carried_cells (begins p) c)) first ∙ (add-zero (sum_by (λ (c : Cell). c.weight) cs) ∙ kept))

  -- ---- the hyper

  abbrev target : Runner
  target n = stay (target_number p n)

  to_target : (rs : List Run) → chain rs target ≡ map (renamed (target_number p)) rs
  to_target rs = chain_stays (target_number p) rs

  target_divides : (columns : Matrix) → DivideAlong target columns
  target_divides columns = along_any target columns (λ e. All-from_recursion (λ (r : Run). r.scale ∣ e.weight) (target e.value) (one-dvd e.weight, tt))

  -- runs that come next, none of whose traces goes on in another
  module _ (next : Runner) (splits : SplitsOnce next) (goes : Goes (λ n. chain (begins p n) next) (whole_on_first (scale_of turns p) ∷ [])) where
    abbrev runs_next : List Run
    runs_next = chain (declared p.types 0 p.decls 0) (λ n. next (copied p n))

    abbrev finishes : Runner
    finishes n = chain (next n) target

    finish_divides : (columns : Matrix) → DivideAlong next columns → DivideAlong finishes columns
    finish_divides columns h =
        subst (λ (from : Runner). DivideAlong from columns) (λ i n. sym (to_target (next n)) i) (renamed_along (target_number p) next columns h)

    finished_runs : chain (begins p 0) finishes ≡ map (renamed (target_number p)) runs_next
    finished_runs =
        whole_runs finishes
        ∙ ((λ i. chain (declared p.types 0 p.decls 0) (λ n. to_target (next (copied p n)) i))
        ∙ sym (renamed_chain (target_number p) (λ n. next (copied p n)) (declared p.types 0 p.decls 0)))

    finished_cells : carried_cells (λ n. chain (begins p n) finishes) (whole_on_first whole) ≡ cells (target_number p) whole runs_next
    finished_cells =
        append-nil (cells (λ n. n) whole (chain (begins p 0) finishes))
        ∙ (ap (λ rs. cells (λ n. n) whole rs) finished_runs ∙ cells_renamed (target_number p) whole runs_next)

    finished_divides : DivideAlong (λ n. chain (begins p n) finishes) first
    finished_divides =
        subst (λ (from : Runner). DivideAlong from first)
        (λ i n. (renamed_chain (target_number p) next (begins p n) ∙ (λ j. chain (begins p n) (λ m. sym (to_target (next m)) j))) i)
        (renamed_along (target_number p) (λ n. chain (begins p n) next) first (goes_divide (λ n. chain (begins p n) next) first goes))

    of_rows : (behind : Matrix) (inners : List Inner) (rows : List (List Row))
        → AllZip (λ column there. AreRowsOf (carried_cells (λ n. chain (begins p n) finishes) column) there) first rows
        → behind ≡ map (λ (r : Row). r.column) (flat_map (λ there. there) rows) → IsHyper behind inners
        → IsHyperOf (cells (target_number p) whole runs_next) inners
    of_rows behind inners [] each is hyper = absurd each
    of_rows behind inners (there ∷ []) each is hyper = record {
      rows = there;
      are_rows = subst (λ joint. AreRowsOf joint there) finished_cells each.0;
      is_hyper = subst (λ columns. IsHyper columns inners) (is ∙ ap (map (λ (r : Row). r.column)) (append-nil there)) hyper;
    }
    of_rows behind inners (there ∷ other ∷ rows) each is hyper = absurd each.1

    -- the hyper of what stands behind them, about the target, is that of the beginning and them
    pub runs_hyper : (column : List Entry) (after targets : Matrix) (inners : List Inner) → IsStart turns p column
        → IsPushed next (column ∷ []) after → AreBehind (λ n. stay (target_number p n)) after targets → IsHyper targets inners
        → IsHyperOf (cells (target_number p) (scale_of turns p) (chain (declared p.types 0 p.decls 0) (λ n. next (copied p n)))) inners
    runs_hyper column after targets inners start pushed behind hyper =
        let divides = goes_divide next (column ∷ []) (start_along next column start goes) in
        let unmerged = some_behind target pushed.behind in
        let same = commutes target pushed.behind after unmerged.0 targets (behind_columns next (column ∷ []) pushed.behind pushed.are_behind)
        (target_divides pushed.behind) pushed.are_merged unmerged.1 behind in
        let through = chained next target (column ∷ []) pushed.behind unmerged.0 splits (column_is column start)
        (finish_divides (column ∷ []) divides) pushed.are_behind unmerged.1 in
        let all = chained (begins p) finishes first (column ∷ []) unmerged.0 (silent_splits (begins p) begins_silent) first_column
        finished_divides (start_behind column start) through in
        of_rows unmerged.0 inners all.rows all.each all.is ((same inners).1 hyper)

  -- the hyper of what stands behind all statements, about the target, is that of the program
  pub program_hyper : (column : List Entry) (after targets : Matrix) (inners : List Inner) → IsStart turns p column
      → IsPushed (all_runs p.types turns (sts p.body)) (column ∷ []) after → AreBehind (λ n. stay (target_number p n)) after targets → IsHyper targets inners
      → IsHyperOf (joint_of turns p) inners
  program_hyper = runs_hyper body (blocks_split p.types turns (sts p.body)) whole_goes
