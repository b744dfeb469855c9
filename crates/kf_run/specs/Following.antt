-- For bodies: the runs of values that are leaked.
use Rattle.std.specs.Prelude.{ℕ, List, Option}
use Rattle.kf_value.specs.Types.{TypeTree}
use Rattle.kf_core.specs.Dxs.{DxTree}
use Rattle.kf_core.specs.Runs.{Run, branched, place, tried}
use Rattle.kf_core.specs.Each.{moved}
use Rattle.kf_core.specs.Leaks.{shown}
use Rattle.kf_support.specs.Moves.{store_behind}

-- the choices' values are leaked, and each leads to the store behind it: of an observation into none, of a shown assignment into its variable
abbrev pub shown_to : List TypeTree → Option ℕ → DxTree → ℕ → List Run
shown_to ts into d n = branched shown n (λ v. moved (place d) (store_behind ts into n v)) (tried ts d n)
