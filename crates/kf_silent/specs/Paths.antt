-- For bodies: paths that name a statement, a run of which nothing is seen, and the runs with quiet or silent statements.
use Rattle.std.specs.Prelude.{ℕ, [], suc, zero, ⊤, List, ◌∷◌, Bool, drop}
use Rattle.std.specs.Str.{bytes_eq}
use Rattle.kf_core.specs.Programs.{ProgramTree}
use Rattle.kf_core.specs.Runs.{Run, all_runs, chain, copied, declared}
use Rattle.kf_core.specs.Sts.{StTree, StTrees, Skip, Assign, Observe, If, While, no_sts, more_sts, sts}
use Rattle.kf_push.specs.Blocks.{block_runs}
use Rattle.kf_silent.specs.Quiet.{hushed}
use Rattle.kf_silent.specs.Silent.{Path, all_silent_runs}

-- the runs of a program in which this block is quiet
abbrev pub quiet_runs : ℕ → ProgramTree → ℕ → ℕ → List Run
quiet_runs turns p from to =
    chain (declared p.types 0 p.decls 0) (λ n.
    chain (block_runs turns p 0 from (copied p n)) (λ m.
    chain (hushed (block_runs turns p from to m))
    (all_runs p.types turns (sts (drop to p.body)))))

-- the runs of a program in which the statements at these paths are silent
abbrev pub silent_program_runs : (Path → Bool) → ℕ → ProgramTree → List Run
silent_program_runs silent turns p =
    chain (declared p.types 0 p.decls 0) (λ n. all_silent_runs silent p.types turns 0 (sts p.body) (copied p n))

-- a run of which nothing is seen
abbrev pub hush : Run → Run
hush r = record r { trace = [] }

abbrev mutual
  -- the path goes into a block of the statement, or no further
  pub IsWithin : StTree → Path → Type 0
  IsWithin x [] = ⊤
  IsWithin Skip (side ∷ path) = ⊥
  IsWithin (Assign i d visible) (side ∷ path) = ⊥
  IsWithin (Observe d) (side ∷ path) = ⊥
  IsWithin (If d xs ys) (zero ∷ path) = IsAmong xs path
  IsWithin (If d xs ys) (suc zero ∷ path) = IsAmong ys path
  IsWithin (If d xs ys) (suc (suc side) ∷ path) = ⊥
  IsWithin (While d xs) (zero ∷ path) = IsAmong xs path
  IsWithin (While d xs) (suc side ∷ path) = ⊥

  -- the path begins with a statement of the block
  pub IsAmong : StTrees → Path → Type 0
  IsAmong xs [] = ⊥
  IsAmong no_sts (i ∷ path) = ⊥
  IsAmong (more_sts x xs) (zero ∷ path) = IsWithin x path
  IsAmong (more_sts x xs) (suc i ∷ path) = IsAmong xs (i ∷ path)

-- a statement of these stands there
abbrev pub IsPath : List StTree → Path → Type 0
IsPath xs path = IsAmong (sts xs) path

-- this path alone
abbrev pub only : Path → Path → Bool
only path other = bytes_eq path other
