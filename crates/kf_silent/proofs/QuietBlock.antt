-- Columns pushed through a program with a quiet block.
use Rattle.std.proofs.Common.{◌≡◌, ℕ, ◌+◌, ◌-◌, ◌≤◌, ◌<◌, List, [], ◌∷◌, ◌++◌, All, drop, get_or, length, take, sym, ap, subst, ◌∙◌, arith, append-nil}
use Rattle.std.proofs.lemmas.Grind.{flat_map-append}
use Rattle.std.proofs.lemmas.List.{drop-drop, drop_all, take-append-drop}
use Rattle.std.proofs.lemmas.List.Elements.{All-cons, All-nil}
use Rattle.kf_value.specs.Types.{TypeTree}
use Rattle.kf_column.specs.declared.entry.Entry.{Entry}
use Rattle.kf_column.specs.Columns.{IsColumn}
use Rattle.kf_column.specs.Hypers.{Inner}
use Rattle.kf_core.specs.Checked.{declared_kinds}
use Rattle.kf_core.specs.ChoiceLaws.{ChoicesAreShares}
use Rattle.kf_core.specs.Pushing.{AreBehind}
use Rattle.kf_core.specs.Ready.{IsPushed, IsReady, IsStart}
use Rattle.kf_core.specs.Rows.{IsHyperOf}
use Rattle.kf_core.specs.Runs.{all_runs, chain}
use Rattle.kf_core.specs.Scale.{scale_of}
use Rattle.kf_core.specs.Sts.{StTree, sts}
use Rattle.kf_core.specs.SupportLaws.{BlockAgrees, CommonScaleIsLeast, ProgramAgrees, RunsChain, ScalesArePositive}
use Rattle.kf_core.proofs.Filled.{all_full}
use Rattle.kf_core.proofs.Measures.{Full}
use Rattle.kf_core.proofs.Solid.{all_solid}
use Rattle.kf_push.specs.Following.{Goes, Takes}
use Rattle.kf_push.specs.Meanings.{IsFinished, IsMeaning, Meaning, runs_between}
use Rattle.kf_silent.specs.Quiet.{hushed, quiet_joint}
use Rattle.kf_push.proofs.Carrying.{Matrix, Runner, chained, goes_behind, goes_divide, goes_on, pushed_chain, pushed_columns}
use Rattle.kf_push.proofs.Programs.{begins, runs_hyper, start_along, start_goes, whole_goes, whole_on_first}
use Rattle.kf_silent.proofs.QuietRuns.{goes_alike, hushed_chain, hushed_splits, hushed_twice}
use Rattle.kf_push.proofs.RowColumns.{behind_is, behind_of, is_behind, row_columns}
use Rattle.kf_push.proofs.Splitting.{Splits, block_splits, chain_splits, splits_once}
use Rattle.kf_push.proofs.Statements.{goes_first, goes_ready, ready_goes}
use Rattle.kf_push.proofs.Weighing.{later_solid}

-- ---- column by column

-- what stands behind a list and one column more
pub behind_more : (from : Runner) (columns : Matrix) (c : List Entry) (behind more : Matrix) → AreBehind from columns behind → AreBehind from (c ∷ []) more
    → AreBehind from (columns ++ c ∷ []) (behind ++ more)
behind_more from columns c behind more first next =
    let both : behind ++ more ≡ behind_of from (columns ++ c ∷ []) =
    (λ i. behind_is from columns behind first i ++ behind_is from (c ∷ []) more next i)
    ∙ sym (flat_map-append (row_columns from) columns (c ∷ [])) in
    subst (AreBehind from (columns ++ c ∷ [])) (sym both) (is_behind from (columns ++ c ∷ []))

-- where all columns can be pushed, each can
pub ready_one : BlockAgrees → (ts : List TypeTree) (turns : ℕ) (xs : List StTree) (columns : Matrix) → All IsColumn columns → IsReady ts turns xs columns
    → (i : ℕ) (c : List Entry) → i < length columns → IsReady ts turns xs (get_or columns i c ∷ [])
ready_one agrees ts turns xs columns are ready i c inside =
    let Along : List Entry → Type 0 = λ column. All (λ (e : Entry). All (Takes e.weight) (all_runs ts turns (sts xs) e.value)) column in
    goes_ready agrees ts turns xs (get_or columns i c ∷ [])
    (All-cons Along (get_or columns i c) [] (ready_goes agrees ts turns xs columns are ready i c inside) (All-nil Along))

-- ---- before the block, in it and behind it

-- what is left from one statement on is a block and then the rest
pub block_rest : {X : Type 0} (from to : ℕ) (xs : List X) → from ≤ to → drop from xs ≡ take (to - from) (drop from xs) ++ drop to xs
block_rest from to xs order =
    let far : from + (to - from) ≡ to = omega (arith, order) in
    sym (take-append-drop (to - from) (drop from xs))
    ∙ ap (λ ys. take (to - from) (drop from xs) ++ ys) (drop-drop (to - from) from xs ∙ ap (λ n. drop n xs) far)

-- the runs up to the last statement are those of all that is left
pub rest_is : (m : Meaning) (from count : ℕ) → count ≡ length m.program.body → from ≤ count
    → runs_between m from count ≡ all_runs m.program.types m.turns (sts (drop from m.program.body))
rest_is m from count all inside =
    let none : drop count m.program.body ≡ [] = drop_all count m.program.body (omega (arith, all)) in
    let whole : drop from m.program.body ≡ take (count - from) (drop from m.program.body) =
    block_rest from count m.program.body inside
    ∙ (ap (λ xs. take (count - from) (drop from m.program.body) ++ xs) none ∙ append-nil (take (count - from) (drop from m.program.body))) in
    ap (λ xs. all_runs m.program.types m.turns (sts xs)) (sym whole)

module _ (m : Meaning) (is : IsMeaning m) (shares : ChoicesAreShares) (agrees : ProgramAgrees) (chains : RunsChain) (scales : ScalesArePositive)
    (least : CommonScaleIsLeast) (block : BlockAgrees) (from to : ℕ) (order : from ≤ to) (column : List Entry) (start : IsStart m.turns m.program column) where
  abbrev rest_from : ℕ → Runner
  rest_from k = all_runs m.program.types m.turns (sts (drop k m.program.body))

  abbrev before : Runner
  before = runs_between m 0 from

  abbrev seen : Runner
  seen = runs_between m from to

  abbrev quiet : Runner
  quiet n = hushed (seen n)

  abbrev rest : Runner
  rest = rest_from to

  abbrev onward : Runner
  onward n = chain (quiet n) rest

  abbrev all_quiet : Runner
  all_quiet n = chain (before n) onward

  parted : (k j : ℕ) → k ≤ j → rest_from k ≡ (λ n. chain (runs_between m k j n) (rest_from j))
  parted k j ordered =
      ap (λ xs. all_runs m.program.types m.turns (sts xs)) (block_rest k j m.program.body ordered)
      ∙ (λ i n. chains m.program.types m.turns (take (j - k) (drop k m.program.body)) (drop j m.program.body) n i)

  -- the runs of the body
  whole_parted : rest_from 0 ≡ (λ n. chain (before n) (λ k. chain (seen k) rest))
  whole_parted = parted 0 from (omega arith) ∙ (λ i n. chain (before n) (parted from to order i))

  rest_full : (k n : ℕ) → Full (rest_from k n)
  rest_full k =
      all_full m.program.types m.turns (sts (drop k m.program.body))
      (later_solid m.program.types k m.program.body (all_solid m.program.types (declared_kinds m.program) is.checked.sound))

  quiet_onward : (n : ℕ) → hushed (chain (seen n) rest) ≡ hushed (onward n)
  quiet_onward n =
      hushed_chain rest (seen n)
      ∙ (λ i. chain (sym (hushed_twice (seen n)) i) (λ k. hushed (rest k)))
      ∙ sym (hushed_chain rest (quiet n))

  quiet_whole : (n : ℕ) → hushed (rest_from 0 n) ≡ hushed (all_quiet n)
  quiet_whole n =
      (λ i. hushed (whole_parted i n))
      ∙ hushed_chain (λ k. chain (seen k) rest) (before n)
      ∙ (λ i. chain (hushed (before n)) (λ k. quiet_onward k i))
      ∙ sym (hushed_chain onward (before n))

  -- the whole goes through the beginning and the program with the quiet block
  whole_quiet : Goes (λ n. chain (begins m.program n) all_quiet) (whole_on_first (scale_of m.turns m.program) ∷ [])
  whole_quiet =
      goes_alike (λ n. chain (begins m.program n) (rest_from 0)) (λ n. chain (begins m.program n) all_quiet)
      (λ n.
      hushed_chain (rest_from 0) (begins m.program n)
      ∙ (λ i. chain (hushed (begins m.program n)) (λ k. quiet_whole k i))
      ∙ sym (hushed_chain all_quiet (begins m.program n)))
      (whole_on_first (scale_of m.turns m.program) ∷ []) (whole_goes m.turns m.program is.checked is.clear shares agrees chains scales least)

  quiet_goes : Goes all_quiet (column ∷ [])
  quiet_goes = start_along m.turns m.program is.checked is.clear shares agrees chains scales least all_quiet column start whole_quiet

  column_is : All IsColumn (column ∷ [])
  column_is = All-cons IsColumn column [] start.is_column (All-nil IsColumn)

  before_goes : Goes before (column ∷ [])
  before_goes =
      goes_first before (rest_from from) (column ∷ []) (rest_full from)
      (subst (λ (f : Runner). Goes f (column ∷ [])) (parted 0 from (omega arith))
      (start_goes m.turns m.program is.checked is.clear shares agrees chains scales least column start))

  -- what stands before the block, and behind it
  module _ (now hushed_now : Matrix) (pushed : IsPushed (runs_between m 0 from) (column ∷ []) now)
      (behind : AreBehind (λ n. hushed (runs_between m from to n)) now hushed_now) where
    now_is : All IsColumn now
    now_is = pushed_columns before (column ∷ []) now pushed

    onward_goes : Goes onward now
    onward_goes = goes_behind before onward (column ∷ []) now column_is before_goes quiet_goes pushed

    rest_goes : Goes rest hushed_now
    rest_goes = goes_on quiet rest now hushed_now now_is (goes_first quiet rest now (rest_full to) onward_goes) onward_goes behind

    -- what stands behind the block can be pushed through the rest
    pub rest_ready : IsReady m.program.types m.turns (drop to m.program.body) hushed_now
    rest_ready = goes_ready block m.program.types m.turns (drop to m.program.body) hushed_now rest_goes

    module _ (count : ℕ) (all : count ≡ length m.program.body) (inside : to ≤ count) (after : Matrix) (last : IsPushed (runs_between m to count) hushed_now after) where
      last_pushed : IsPushed rest hushed_now after
      last_pushed = subst (λ (f : Runner). IsPushed f hushed_now after) (rest_is m to count all inside) last

      before_splits : Splits before
      before_splits = block_splits m.program.types m.turns (sts (take (from - 0) (drop 0 m.program.body)))

      onward_pushed : IsPushed onward now after
      onward_pushed = record {
        behind = last_pushed.behind;
        are_behind =
            chained quiet rest now hushed_now last_pushed.behind (splits_once quiet (hushed_splits seen)) now_is (goes_divide onward now onward_goes) behind
            last_pushed.are_behind;
        are_merged = last_pushed.are_merged;
      }

      quiet_pushed : IsPushed all_quiet (column ∷ []) after
      quiet_pushed = pushed_chain before onward (column ∷ []) now after (splits_once before before_splits) column_is before_goes quiet_goes pushed onward_pushed

      all_splits : Splits all_quiet
      all_splits =
          chain_splits before onward before_splits
          (chain_splits quiet rest (hushed_splits seen) (block_splits m.program.types m.turns (sts (drop to m.program.body))))

      -- the hyper of what stands behind the rest, about the target, is that of the program with the quiet block
      pub quiet_finished : (inners : List Inner) → IsFinished m.program after inners → IsHyperOf (quiet_joint m.turns m.program from to) inners
      quiet_finished inners finished =
          runs_hyper m.turns m.program is.checked is.clear shares agrees chains scales least all_quiet (splits_once all_quiet all_splits) whole_quiet
          column after finished.targets inners start quiet_pushed finished.are_targets finished.is_hyper
