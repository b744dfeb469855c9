-- For bodies: runs that forget what a variable holds.
use Rattle.std.specs.Prelude.{ℕ, List}
use Rattle.std.specs.Option.{unwrap_or}
use Rattle.kf_value.specs.Types.{TypeTree}
use Rattle.kf_value.specs.Values.{ValueTree}
use Rattle.kf_core.specs.Runs.{Run, replaced, stay}

-- the store in which variable i has this value, whatever it had before; the store as it is where the value isn't of the variable's type
abbrev pub forgotten : List TypeTree → ℕ → ValueTree → ℕ → ℕ
forgotten ts i v n = unwrap_or (replaced ts i v n) n

-- a store goes there, and nothing is leaked
abbrev pub forgetting : List TypeTree → ℕ → ValueTree → ℕ → List Run
forgetting ts i v n = stay (forgotten ts i v n)
