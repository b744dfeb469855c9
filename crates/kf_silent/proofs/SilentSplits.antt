-- What is left of a trace goes on in no other.
use Rattle.std.proofs.Common.{ℕ, suc, Bool, true, false, List, []}
use Rattle.std.specs.Prelude.{if◌then◌else◌}
use Rattle.kf_value.specs.Types.{TypeTree}
use Rattle.kf_core.specs.Runs.{assigned, branched, guarded, leaks, looped, place, stay, tried}
use Rattle.kf_core.specs.Sts.{StTree, StTrees, Skip, Assign, Observe, If, While, no_sts, more_sts}
use Rattle.kf_core.specs.Leaks.{shown}
use Rattle.kf_silent.specs.Quiet.{hushed}
use Rattle.kf_push.proofs.Carrying.{Runner}
use Rattle.kf_silent.proofs.QuietRuns.{hushed_splits}
use Rattle.kf_push.proofs.Splitting.{Splits, assigned_splits, chain_splits, guarded_splits, looped_splits, shown_splits, stay_splits}
use Rattle.kf_silent.specs.Silent.{Path, all_silent_runs, silent_runs, unless_silent, within}

module _ (from : Runner) (splits : Splits from) where
  if_splits : (b : Bool) → Splits (λ n. if b then hushed (from n) else from n)
  if_splits true = hushed_splits from
  if_splits false = splits

  unless_splits : (silent : Path → Bool) → Splits (λ n. unless_silent silent (from n))
  unless_splits silent = if_splits (silent [])

module _ (ts : List TypeTree) (turns : ℕ) where
  mutual
    pub statement_splits : (silent : Path → Bool) (x : StTree) → Splits (silent_runs silent ts turns x)
    statement_splits silent Skip = stay_splits
    statement_splits silent (Assign i d visible) = unless_splits (assigned (leaks visible) ts i d) (assigned_splits ts i d visible) silent
    statement_splits silent (Observe d) =
        unless_splits (λ n. branched shown n (λ v. stay n) (tried ts d n)) (shown_splits (tried ts d) (λ n v. stay n) (λ v. stay_splits)) silent
    statement_splits silent (If d xs ys) =
        let taken : Runner = all_silent_runs (within silent 0) ts turns 0 xs in
        let left : Runner = all_silent_runs (within silent 1) ts turns 0 ys in
        unless_splits (guarded (tried ts d) taken left)
        (guarded_splits (tried ts d) taken left (block_splits (within silent 0) 0 xs) (block_splits (within silent 1) 0 ys)) silent
    statement_splits silent (While d xs) =
        let body : Runner = all_silent_runs (within silent 0) ts turns 0 xs in
        unless_splits (looped turns (tried ts d) (place d) body) (looped_splits (tried ts d) turns (place d) body (block_splits (within silent 0) 0 xs)) silent

    pub block_splits : (silent : Path → Bool) (i : ℕ) (xs : StTrees) → Splits (all_silent_runs silent ts turns i xs)
    block_splits silent i no_sts = stay_splits
    block_splits silent i (more_sts x xs) =
        chain_splits (silent_runs (within silent i) ts turns x) (all_silent_runs silent ts turns (suc i) xs) (statement_splits (within silent i) x)
        (block_splits silent (suc i) xs)
