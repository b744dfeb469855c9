-- Believed: the runs of a block of a program: of some of its outermost statements, one after the other.
use Rattle.std.specs.Prelude.{ℕ, ◌-◌, List, take, drop}
use Rattle.kf_core.specs.Programs.{ProgramTree}
use Rattle.kf_core.specs.Runs.{Run, all_runs}
use Rattle.kf_core.specs.Sts.{sts}

-- the runs of a block: of the outermost statements from one on, counted from 0, up to but not with another
abbrev pub block_runs : ℕ → ProgramTree → ℕ → ℕ → ℕ → List Run
block_runs turns p from to = all_runs p.types turns (sts (take (to - from) (drop from p.body)))
