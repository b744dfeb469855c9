-- For bodies: the state of a sink that grows.
use Rattle.std.specs.Prelude.{ℕ, List, []}

pub record SinkState : Type 0 where
  -- what it has taken
  pub bytes : List ℕ
  -- how often a write has failed
  pub faults : ℕ

abbrev pub empty_sink : SinkState
empty_sink = record { bytes = []; faults = 0 }
