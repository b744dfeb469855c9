-- For bodies: the state of a sink in memory.
use Rattle.std.specs.Prelude.{◌≡◌, ◌⊎◌, ℕ, ◌-◌, ◌<◌, min, List, [], length, nat_lt, Contains, if◌then◌else◌}
use Rattle.std.specs.List.{list_all}

-- a sink in memory
pub record SinkState : Type 0 where
  -- what it has taken
  pub bytes : List ℕ
  -- how many bytes it may take in all
  pub room : ℕ
  -- the most that one write takes
  pub piece : ℕ
  -- the numbers of the calls that fail
  pub fail : List ℕ
  -- the number of the next call
  pub calls : ℕ
  -- how often a call has failed
  pub faults : ℕ

-- a sink before its first call
abbrev pub fresh_sink : ℕ → ℕ → List ℕ → SinkState
fresh_sink room piece fail = record { bytes = []; room = room; piece = piece; fail = fail; calls = 0; faults = 0 }

-- how many more bytes it has room for
abbrev pub room_left : SinkState → ℕ
room_left s = s.room - length s.bytes

-- how many bytes of this piece a write takes
abbrev pub write_count : SinkState → List ℕ → ℕ
write_count s bytes = min (min (length bytes) s.piece) (room_left s)

-- a write fails where its number is listed, or where there is something to take and no room
abbrev pub WriteFails : SinkState → List ℕ → Type 0
WriteFails s bytes = Contains s.fail s.calls ⊎ ((0 < length bytes) × (room_left s ≡ 0))

-- its room counts for certain once each listed number has passed
abbrev pub certain_room : SinkState → ℕ
certain_room s = if list_all (λ n. nat_lt n s.calls) s.fail then room_left s else 0
