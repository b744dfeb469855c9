-- For bodies: the columns that decide between rows.
use Rattle.std.specs.Prelude.{ℕ, ◌+◌, zero, suc}

-- the m-th column of the list that decides which row leaves: the right side, then the artificials in order
abbrev pub deciding : ℕ → ℕ → ℕ → ℕ
deciding unknowns right m = elim m [ zero ↦ right | suc k ↦ unknowns + k ]
