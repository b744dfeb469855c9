-- For bodies: where a choice leads.
use Rattle.std.specs.Prelude.{ℕ, List, Option, None, Some}
use Rattle.kf_value.specs.Types.{TypeTree}
use Rattle.kf_value.specs.Values.{ValueTree}
use Rattle.kf_core.specs.Runs.{replaced}

-- the store behind a choice: where a variable takes the value, the one in which it has it; else the same
abbrev pub store_behind : List TypeTree → Option ℕ → ℕ → ValueTree → Option ℕ
store_behind ts (Some i) n v = replaced ts i v n
store_behind ts None n v = Some n
