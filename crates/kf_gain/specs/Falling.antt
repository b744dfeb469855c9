-- For bodies: lists of weights, the greatest first.
use Rattle.std.specs.Prelude.{ℕ, ◌+◌, ◌<◌, ◌≤◌, List, length, slice_index}

-- no weight is above the one before it
abbrev pub IsFalling : List ℕ → Type 0
IsFalling weights = (k : ℕ) → k + 1 < length weights → slice_index weights (k + 1) ≤ slice_index weights k
