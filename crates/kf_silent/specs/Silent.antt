-- Believed: programs in which some statements, wherever they stand, leave no trace.
use Rattle.std.specs.Prelude.{ℕ, suc, Bool, List, [], ◌∷◌, if◌then◌else◌, true}
use Rattle.kf_value.specs.Types.{TypeTree}
use Rattle.kf_core.specs.Joint.{Cell, cells, target_number}
use Rattle.kf_core.specs.Programs.{ProgramTree}
use Rattle.kf_core.specs.Runs.{Run, assigned, branched, chain, copied, declared, guarded, leaks, looped, place, stay, tried}
use Rattle.kf_core.specs.Scale.{scale_of}
use Rattle.kf_core.specs.Sts.{StTree, StTrees, Skip, Assign, Observe, If, While, no_sts, more_sts, sts}
use Rattle.kf_silent.specs.Quiet.{hushed}

-- where a statement stands: its place among the outermost statements, counted from 0; where it stands within that one, the block that is
-- entered there, 0 or for `else` 1; its place in it, and so on
abbrev pub Path : Type 0
Path = List ℕ

-- the paths of a set that begin with this number, without it
abbrev pub within : (Path → Bool) → ℕ → Path → Bool
within silent i path = silent (i ∷ path)

-- of a silent statement's runs nothing is seen
abbrev pub unless_silent : (Path → Bool) → List Run → List Run
unless_silent silent rs = if silent [] then hushed rs else rs

-- the runs of a statement from a store, and of the statements of a block from the one with this place on, where each loop has at most so
-- many turns: what is leaked within a silent statement is left out, and all else is as ever
abbrev mutual
  pub silent_runs : (Path → Bool) → List TypeTree → ℕ → StTree → ℕ → List Run
  silent_runs silent ts turns Skip n = stay n
  silent_runs silent ts turns (Assign i d visible) n = unless_silent silent (assigned (leaks visible) ts i d n)
  silent_runs silent ts turns (Observe d) n = unless_silent silent (branched (leaks true) n (λ v. stay n) (tried ts d n))
  silent_runs silent ts turns (If d xs ys) n =
      unless_silent silent
      (guarded (tried ts d) (all_silent_runs (within silent 0) ts turns 0 xs) (all_silent_runs (within silent 1) ts turns 0 ys) n)
  silent_runs silent ts turns (While d xs) n =
      unless_silent silent (looped turns (tried ts d) (place d) (all_silent_runs (within silent 0) ts turns 0 xs) n)

  pub all_silent_runs : (Path → Bool) → List TypeTree → ℕ → ℕ → StTrees → ℕ → List Run
  all_silent_runs silent ts turns i no_sts n = stay n
  all_silent_runs silent ts turns i (more_sts x xs) n =
      chain (silent_runs (within silent i) ts turns x n) (all_silent_runs silent ts turns (suc i) xs)

-- the joint of a program in which the statements at these paths are silent, over the scale of all runs
abbrev pub silent_joint : (Path → Bool) → ℕ → ProgramTree → List Cell
silent_joint silent turns p = cells (target_number p) (scale_of turns p) (
    chain (declared p.types 0 p.decls 0) (λ n. all_silent_runs silent p.types turns 0 (sts p.body) (copied p n)))
