-- For bodies: statements of which nothing is seen.
use Rattle.std.specs.Prelude.{◌≡◌, ℕ, List, [], ◌∷◌}
use Rattle.kf_value.specs.Types.{TypeTree}
use Rattle.kf_core.specs.Runs.{all_runs}
use Rattle.kf_core.specs.Sts.{StTree, sts}
use Rattle.kf_silent.specs.Quiet.{hushed}

-- of no run of the statement anything is seen
abbrev pub ShowsNothing : StTree → Type 0
ShowsNothing s = (ts : List TypeTree) (turns n : ℕ) → hushed (all_runs ts turns (sts (s ∷ [])) n) ≡ all_runs ts turns (sts (s ∷ [])) n
