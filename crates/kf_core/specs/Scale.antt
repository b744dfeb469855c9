-- Believed: the scale: the one denominator of the weights of all runs.
use Rattle.std.specs.Prelude.{ℕ, map}
use Rattle.kf_frac.specs.Divisors.{common_multiple}
use Rattle.kf_core.specs.Programs.{ProgramTree}
use Rattle.kf_core.specs.Runs.{program_runs}

-- the least common multiple of the runs' scales
abbrev pub scale_of : ℕ → ProgramTree → ℕ
scale_of turns p = common_multiple (map (λ r. r.scale) (program_runs turns p))
