-- The last count of a trail bounds the number of the hyper's inners.
use Rattle.std.proofs.Common.{◌≡◌, ℕ, ◌<◌, ◌≤◌, List, [], ◌∷◌, All, length, map, slice_get, Option, None, Some, refl, sym, ap, subst, ◌∙◌, arith}
use Rattle.std.specs.Option.{unwrap_or}
use Rattle.std.proofs.Math.ListN.{length-map}
use Rattle.std.proofs.Math.Seq.{take-length}
use Rattle.std.proofs.lemmas.List.Elements.{All-cons, All-nil}
use Rattle.kf_value.specs.Stores.{stores}
use Rattle.kf_value.specs.Types.{TypeTree}
use Rattle.kf_column.specs.declared.entry.Entry.{Entry}
use Rattle.kf_column.specs.Averages.{joint_column}
use Rattle.kf_column.specs.Columns.{IsColumn}
use Rattle.kf_column.specs.Hypers.{Inner, IsHyper}
use Rattle.kf_column.specs.Laws.{ProjectedNumbers, SomeHyper}
use Rattle.kf_column.specs.Merged.{AreMerged}
use Rattle.kf_column.specs.Shapes.{IsBelow}
use Rattle.kf_column.specs.Traces.{Row}
use Rattle.kf_column.proofs.Beliefs.{merged_below, merged_distinct}
use Rattle.kf_core.specs.ChoiceLaws.{ChoicesAreShares}
use Rattle.kf_core.specs.Dxs.{DxTree}
use Rattle.kf_core.specs.Joint.{cells, target_number}
use Rattle.kf_core.specs.JointLaws.{HypersAreOne, RowsAreOne}
use Rattle.kf_core.specs.Programs.{ProgramTree}
use Rattle.kf_core.specs.Pushing.{AreBehind, HasBeliefs}
use Rattle.kf_core.specs.Ready.{IsPushed, IsStart}
use Rattle.kf_core.specs.Runs.{all_runs, carried, copied, declared, stay, store_at, store_number}
use Rattle.kf_core.specs.Scale.{scale_of}
use Rattle.kf_core.specs.Sts.{sts}
use Rattle.kf_core.specs.SupportLaws.{CommonScaleIsLeast, ProgramAgrees, RunsChain, ScalesArePositive}
use Rattle.kf_core.proofs.Stores.{length-stores}
use Rattle.kf_push.proofs.Carrying.{Matrix, Runner, behind_columns, pushed_columns, some_behind, some_pushed}
use Rattle.kf_push.proofs.Programs.{begun_rows, program_hyper, start_made, whole_on_first}
use Rattle.kf_meaning.specs.Trails.{AreLast, HasAll, LastCountBounds, LastCountIsMet}
use Rattle.kf_meaning.proofs.Counting.{at_least_columns, at_most_columns}
use Rattle.kf_meaning.proofs.Renumbered.{Become, become_long, moved_columns, still_apart}
use Rattle.kf_meaning.proofs.Telling.{tells_stores}
use Rattle.kf_meaning.proofs.Within.{AllIn, all_in, behind_below, cells_below, column_below, declared_in, numbered}

-- ---- the last count

module _ (turns : ℕ) (p : ProgramTree) (last : ℕ) (inners : List Inner) (are : AreLast turns p last inners) (some_hyper : SomeHyper)
    (one_rows : RowsAreOne) (one_hyper : HypersAreOne) (shares : ChoicesAreShares) (agrees : ProgramAgrees) (sequence : RunsChain)
    (scales : ScalesArePositive) (least : CommonScaleIsLeast) where
  abbrev body : Runner
  body = all_runs p.types turns (sts p.body)

  abbrev target : Runner
  target n = stay (target_number p n)

  abbrev first : Matrix
  first = whole_on_first (scale_of turns p) ∷ []

  started : (column : List Entry) × IsStart turns p column
  started =
      let one = some_pushed (declared p.types 0 p.decls) first in
      let other = some_pushed (λ n. stay (copied p n)) one.0 in
      let s = start_made turns p are.checked are.clear shares agrees sequence scales least one.0 other.0 one.1 other.1 in
      (s.0, s.2)

  abbrev start : List Entry
  start = started.0

  begun : map (λ (r : Row). r.column) are.is_trail.rows ≡ start ∷ []
  begun =
      let b = begun_rows turns p are.checked are.clear shares agrees sequence scales least start started.1 in
      ap (map (λ (r : Row). r.column)) (one_rows _ are.is_trail.rows b.0 are.is_trail.are_rows b.1) ∙ b.2

  believed : HasBeliefs body (start ∷ []) last
  believed =
      subst (λ columns. HasBeliefs body columns last) begun
      (subst (λ xs. HasBeliefs (all_runs p.types turns (sts xs)) (map (λ (r : Row). r.column) are.is_trail.rows) last) (take-length p.body)
      (are.is_trail.each (length p.body) last are.is_last))

  merged : Matrix
  merged = map joint_column believed.inners

  are_merged : AreMerged believed.behind merged
  unfolding merged
  are_merged = record { inners = believed.inners; is_hyper = believed.is_hyper; sums = refl }

  pushed : IsPushed body (start ∷ []) merged
  pushed = record {
    behind = believed.behind;
    are_behind = believed.are_behind;
    are_merged = are_merged;
  }

  merged_long : length merged ≡ last
  unfolding merged
  merged_long = length-map believed.inners joint_column ∙ sym believed.counted

  -- the columns about the target are those of the hyper
  there : (columns : Matrix) × AreBehind target merged columns
  there = some_behind target merged

  are_columns : All IsColumn there.0
  are_columns = behind_columns target merged there.0 there.1

  become : Become (target_number p) merged there.0
  become =
      subst (Become (target_number p) merged) (sym there.1.is)
      (moved_columns (target_number p) merged there.1.rows (pushed_columns body (start ∷ []) merged pushed) there.1.each)

  is_hyper : IsHyper there.0 inners
  is_hyper =
      let hyper = some_hyper there.0 are_columns in
      let is = program_hyper turns p are.checked are.clear shares agrees sequence scales least start merged there.0 hyper.0 started.1 pushed there.1 hyper.1 in
      subst (IsHyper there.0) (one_hyper _ hyper.0 inners is are.is_hyper) hyper.1

  bounded : length inners ≤ last
  bounded = omega (arith, at_most_columns there.0 inners are_columns is_hyper, become_long (target_number p) merged there.0 become, merged_long)

  -- ---- where the target is all variables

  abbrev size : ℕ
  size = length (stores p.types)

  no_copies : (cs : List ℕ) → ((j c : ℕ) → slice_get cs j ≡ Some c → c < 0) → length cs ≡ 0
  no_copies [] h = refl
  no_copies (c ∷ cs) h = absurd (omega (arith, h 0 c refl))

  one_at_least : (ts : List TypeTree) → length ts ≡ 0 → 0 < length (stores ts)
  one_at_least [] long = omega (arith, length-stores [])
  one_at_least (t ∷ ts) long = absurd (omega (arith, long))

  declared_by : (ds : List DxTree) → p.decls ≡ ds → AllIn p.types (declared p.types 0 ds 0)
  declared_by [] is =
      let none : length p.decls ≡ 0 = ap length is in
      let copies = no_copies p.copies (λ j c here. omega (arith, (are.checked.copied j c here).0, none)) in
      (one_at_least p.types (omega (arith, are.checked.counted, none, copies)), tt)
  declared_by (d ∷ ds) is = declared_in p.types 0 d ds 0

  copied_by : (n : ℕ) (x : Option ℕ) → store_number p.types (carried p (store_at p.types n)) ≡ x → n < size
      → unwrap_or x n < size
  copied_by n (Some m) is low = numbered p.types _ m is
  copied_by n None is low = low

  start_below : IsBelow size start
  start_below =
      let cs = cells (copied p) (scale_of turns p) (declared p.types 0 p.decls 0) in
      column_below size cs [] start
      (cells_below p.types (copied p) (λ n low. copied_by n (store_number p.types (carried p (store_at p.types n))) refl low) (scale_of turns p)
      (declared p.types 0 p.decls 0) (declared_by p.decls refl)) started.1.is_column started.1.weights

  merged_is_below : All (IsBelow size) merged
  merged_is_below =
      let b = believed.are_behind in
      merged_below size believed.behind merged (behind_columns body (start ∷ []) believed.behind b) are_merged
      (subst (All (IsBelow size)) (sym b.is)
      (behind_below p.types body (all_in p.types turns (sts p.body)) (start ∷ []) b.rows
      (All-cons (IsBelow size) start [] start_below (All-nil (IsBelow size))) b.each))

  met : ProjectedNumbers → HasAll p → last ≤ length inners
  met numbers all =
      let apart = merged_distinct believed.behind merged (behind_columns body (start ∷ []) believed.behind believed.are_behind) are_merged in
      let told = still_apart (target_number p) size (tells_stores p are.checked numbers all) merged there.0 merged_is_below become apart in
      omega (arith, at_least_columns there.0 inners are_columns told is_hyper, become_long (target_number p) merged there.0 become, merged_long)

pub last_count_bounds : SomeHyper → RowsAreOne → HypersAreOne → ChoicesAreShares → ProgramAgrees → RunsChain → ScalesArePositive → CommonScaleIsLeast
    → LastCountBounds
last_count_bounds some_hyper one_rows one_hyper shares agrees sequence scales least turns p last inners are =
    bounded turns p last inners are some_hyper one_rows one_hyper shares agrees sequence scales least

pub last_count_is_met : SomeHyper → RowsAreOne → HypersAreOne → ChoicesAreShares → ProgramAgrees → RunsChain → ScalesArePositive → CommonScaleIsLeast
    → ProjectedNumbers → LastCountIsMet
last_count_is_met some_hyper one_rows one_hyper shares agrees sequence scales least numbers turns p last inners are all =
    let most = bounded turns p last inners are some_hyper one_rows one_hyper shares agrees sequence scales least in
    let few = met turns p last inners are some_hyper one_rows one_hyper shares agrees sequence scales least numbers all in
    omega (arith, most, few)
