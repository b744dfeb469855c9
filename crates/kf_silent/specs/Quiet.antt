-- Believed: a program with a quiet block: outermost statements that together leave no trace.
use Rattle.std.specs.Prelude.{ℕ, List, [], map, drop}
use Rattle.kf_core.specs.Joint.{Cell, cells, target_number}
use Rattle.kf_core.specs.Programs.{ProgramTree}
use Rattle.kf_core.specs.Runs.{Run, all_runs, chain, copied, declared}
use Rattle.kf_core.specs.Scale.{scale_of}
use Rattle.kf_core.specs.Sts.{sts}
use Rattle.kf_push.specs.Blocks.{block_runs}

-- runs of which nothing is seen
abbrev pub hushed : List Run → List Run
hushed rs = map (λ (r : Run). record r { trace = [] }) rs

-- the joint of a program in which this block is quiet, over the scale of all runs
abbrev pub quiet_joint : ℕ → ProgramTree → ℕ → ℕ → List Cell
quiet_joint turns p from to = cells (target_number p) (scale_of turns p) (
    chain (declared p.types 0 p.decls 0) (λ n.
    chain (block_runs turns p 0 from (copied p n)) (λ m.
    chain (hushed (block_runs turns p from to m))
    (all_runs p.types turns (sts (drop to p.body))))))
