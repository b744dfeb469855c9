-- What goes along the runs of statements goes along their silent runs, and comes to the silent hyper.
use Rattle.std.proofs.Common.{◌≡◌, ℕ, suc, ◌+◌, Bool, List, [], ◌∷◌, ◌++◌, length, IsOk, refl, sym, ap, subst, ◌∙◌, arith}
use Rattle.kf_value.specs.Types.{TypeTree}
use Rattle.kf_column.specs.declared.entry.Entry.{Entry}
use Rattle.kf_column.specs.Hypers.{Inner, IsHyper}
use Rattle.kf_core.specs.Checked.{IsChecked}
use Rattle.kf_core.specs.ChoiceLaws.{ChoicesAreShares}
use Rattle.kf_core.specs.Joint.{target_number}
use Rattle.kf_core.specs.Programs.{ProgramTree}
use Rattle.kf_core.specs.Pushing.{AreBehind}
use Rattle.kf_core.specs.Ready.{IsPushed, IsStart}
use Rattle.kf_core.specs.Rows.{IsHyperOf}
use Rattle.kf_core.specs.Runs.{Run, all_runs, chain, runs, stay}
use Rattle.kf_core.specs.Scale.{scale_of}
use Rattle.kf_core.specs.Sts.{StTree, StTrees, sts}
use Rattle.kf_core.specs.Support.{program_pass}
use Rattle.kf_core.specs.SupportLaws.{CommonScaleIsLeast, ProgramAgrees, RunsChain, ScalesArePositive}
use Rattle.kf_core.proofs.Measures.{Full}
use Rattle.kf_push.specs.Following.{Goes}
use Rattle.kf_silent.specs.Quiet.{hushed}
use Rattle.kf_push.proofs.Carrying.{Matrix, Runner}
use Rattle.kf_push.proofs.Programs.{begins, runs_hyper, whole_goes, whole_on_first}
use Rattle.kf_silent.proofs.QuietRuns.{goes_alike, hushed_full}
use Rattle.kf_push.proofs.Splitting.{splits_once}
use Rattle.kf_silent.specs.Laws.{NoSilentTraceGoesOn}
use Rattle.kf_silent.specs.Silent.{Path, all_silent_runs, silent_joint, silent_runs, within}
use Rattle.kf_silent.proofs.Chaining.{chain_chain, stay_chain}
use Rattle.kf_silent.proofs.Hushing.{block_hushed, chain_hushed, statement_hushed}
use Rattle.kf_silent.proofs.SilentSplits.{block_splits}

pub no_trace_goes_on : NoSilentTraceGoesOn
no_trace_goes_on silent ts turns i xs = splits_once (all_silent_runs silent ts turns i (sts xs)) (block_splits ts turns silent i (sts xs))

-- ---- there are runs where there were

full_seen : (rs : List Run) → Full (hushed rs) → Full rs
full_seen [] full = absurd full
full_seen (r ∷ rs) full = tt

pub same_full : (rs qs : List Run) → hushed rs ≡ hushed qs → Full qs → Full rs
same_full rs qs same full = full_seen rs (subst Full (sym same) (hushed_full qs full))

module _ (silent : Path → Bool) (ts : List TypeTree) (turns : ℕ) where
  pub statement_full : (x : StTree) → ((n : ℕ) → Full (runs ts turns x n)) → (n : ℕ) → Full (silent_runs silent ts turns x n)
  statement_full x full n = same_full (silent_runs silent ts turns x n) (runs ts turns x n) (statement_hushed ts turns silent x n) (full n)

  pub block_full : (i : ℕ) (xs : StTrees) → ((n : ℕ) → Full (all_runs ts turns xs n)) → (n : ℕ) → Full (all_silent_runs silent ts turns i xs n)
  block_full i xs full n = same_full (all_silent_runs silent ts turns i xs n) (all_runs ts turns xs n) (block_hushed ts turns silent i xs n) (full n)

  -- ---- what can go

  pub statement_goes : (x : StTree) (columns : Matrix) → Goes (runs ts turns x) columns → Goes (silent_runs silent ts turns x) columns
  statement_goes x columns goes =
      goes_alike (runs ts turns x) (silent_runs silent ts turns x) (λ n. sym (statement_hushed ts turns silent x n)) columns goes

  pub block_goes : (i : ℕ) (xs : StTrees) (columns : Matrix) → Goes (all_runs ts turns xs) columns → Goes (all_silent_runs silent ts turns i xs) columns
  block_goes i xs columns goes =
      goes_alike (all_runs ts turns xs) (all_silent_runs silent ts turns i xs) (λ n. sym (block_hushed ts turns silent i xs n)) columns goes

  -- ---- one block and then another

  pub blocks_chain : (i : ℕ) (xs ys : List StTree) (n : ℕ)
      → all_silent_runs silent ts turns i (sts (xs ++ ys)) n
      ≡ chain (all_silent_runs silent ts turns i (sts xs) n) (all_silent_runs silent ts turns (i + length xs) (sts ys))
  blocks_chain i [] ys n =
      let same : i ≡ i + 0 = omega arith in
      ap (λ j. all_silent_runs silent ts turns j (sts ys) n) same ∙ sym (stay_chain n (all_silent_runs silent ts turns (i + 0) (sts ys)))
  blocks_chain i (x ∷ xs) ys n =
      let same : suc i + length xs ≡ i + length (x ∷ xs) = omega arith in
      (λ k. chain (silent_runs (within silent i) ts turns x n) (λ m. blocks_chain (suc i) xs ys m k))
      ∙ sym (chain_chain (all_silent_runs silent ts turns (suc i) (sts xs)) (all_silent_runs silent ts turns (suc i + length xs) (sts ys))
      (silent_runs (within silent i) ts turns x n))
      ∙ ap (λ j. chain (chain (silent_runs (within silent i) ts turns x n) (all_silent_runs silent ts turns (suc i) (sts xs))) (all_silent_runs silent ts turns j (sts ys))) same

-- ---- a whole program

module _ (silent : Path → Bool) (turns : ℕ) (p : ProgramTree) (checked : IsChecked p) (clear : IsOk (program_pass turns p))
    (shares : ChoicesAreShares) (agrees : ProgramAgrees) (sequence : RunsChain) (scales : ScalesArePositive) (least : CommonScaleIsLeast) where
  abbrev body : Runner
  body = all_silent_runs silent p.types turns 0 (sts p.body)

  pub silent_whole : Goes (λ n. chain (begins p n) (all_silent_runs silent p.types turns 0 (sts p.body))) (whole_on_first (scale_of turns p) ∷ [])
  silent_whole =
      goes_alike (λ n. chain (begins p n) (all_runs p.types turns (sts p.body))) (λ n. chain (begins p n) body)
      (λ n. chain_hushed (begins p n) (begins p n) (all_runs p.types turns (sts p.body)) body refl (λ m. sym (block_hushed p.types turns silent 0 (sts p.body) m)))
      (whole_on_first (scale_of turns p) ∷ []) (whole_goes turns p checked clear shares agrees sequence scales least)

  -- the hyper of what stands behind all statements, about the target, is the silent one
  pub silent_hyper : (column : List Entry) (after targets : Matrix) (inners : List Inner) → IsStart turns p column
      → IsPushed (all_silent_runs silent p.types turns 0 (sts p.body)) (column ∷ []) after → AreBehind (λ n. stay (target_number p n)) after targets
      → IsHyper targets inners → IsHyperOf (silent_joint silent turns p) inners
  silent_hyper =
      runs_hyper turns p checked clear shares agrees sequence scales least body
      (splits_once body (block_splits p.types turns silent 0 (sts p.body))) silent_whole
