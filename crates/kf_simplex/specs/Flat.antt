-- For bodies: the rows of a table as a tableau.
use Rattle.std.specs.Prelude.{ℕ, ◌+◌, ◌<◌, ◌≡◌, ℤ, pos, List, [], map, slice_index, slice_index_or}
use Rattle.kf_simplex.specs.Systems.{LinearSystem, right_column}
use Rattle.kf_simplex.specs.Tableaus.{Tableau}
use Rattle.kf_simplex.specs.declared.row.Entry.{Entry}
use Rattle.kf_simplex.specs.declared.row.Row.{Row}
use Rattle.kf_simplex.specs.Entries.{number_in}

abbrev pub width : LinearSystem → ℕ
width s = right_column s + 1

-- the last row is the objective
abbrev pub tableau_of : LinearSystem → (ℕ → ℕ → ℤ) → List ℕ → Tableau
tableau_of s cells basis = record { basis = λ k. slice_index basis k; rows = cells; objective = cells s.equations }

-- the entries of a row; none past the end
abbrev pub entries_at : List Row → ℕ → List Entry
entries_at rows i = slice_index_or (map (λ r. r.entries.items) rows) i []

-- the number in a row at a column
abbrev pub cell : List Row → ℕ → ℕ → ℤ
cell rows i c = number_in (entries_at rows i) c

-- no row has an entry past this column
abbrev pub IsWithin : ℕ → (ℕ → ℕ → ℤ) → Type 0
IsWithin last cells = (i c : ℕ) → last < c → cells i c ≡ pos 0
