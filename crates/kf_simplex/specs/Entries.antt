-- For bodies: a row as its entries by ascending columns.
use Rattle.std.specs.Prelude.{◌≡◌, ◌≢◌, ℕ, ◌+◌, ◌<◌, ◌≤◌, ◌==◌, ℤ, pos, List, [], ◌∷◌, length, slice_index_or, if◌then◌else◌}
use Rattle.std.specs.Coded.{×_prop, Unit-prop, le_prop}
use Rattle.kf_simplex.specs.declared.row.Entry.{Entry}

-- what stands for an entry past the end of a list
abbrev pub no_entry : Entry
no_entry = record { column = 0; number = pos 0 }

-- the number at a column: 0 where no entry stands
abbrev pub number_in : List Entry → ℕ → ℤ
number_in [] c = pos 0
number_in (e ∷ es) c = if e.column == c then e.number else number_in es c

-- the columns ascend, from low on
abbrev pub Ascends : ℕ → List Entry → Type 0
Ascends low [] = Unit {0}
Ascends low (e ∷ es) = (low ≤ e.column) × Ascends (e.column + 1) es

pub Ascends-prop : (low : ℕ) (es : List Entry) → IsProp (Ascends low es)
Ascends-prop low [] = Unit-prop
Ascends-prop low (e ∷ es) = ×_prop le_prop (Ascends-prop (e.column + 1) es)

-- no entry stands at this column or past it
abbrev pub IsRowWithin : ℕ → List Entry → Type 0
IsRowWithin n es = (j : ℕ) → j < length es → (slice_index_or es j no_entry).column < n

-- entries by ascending columns have x at the column, and nothing before it; the others come after it
pub record IsTaken (es : List Entry) (column : ℕ) (x : ℤ) (rest : List Entry) : Type 0 where
  pub here : number_in es column ≡ x
  pub other : (j : ℕ) → j ≢ column → number_in es j ≡ number_in rest j
  pub above : Ascends (column + 1) rest

-- the least column of two rows with its two numbers, and what comes after it
pub record IsLeast (xs ys : List Entry) (column : ℕ) (x y : ℤ) (after_x after_y : List Entry) : Type 0 where
  pub from : (low : ℕ) → Ascends low xs → Ascends low ys → low ≤ column
  pub first : IsTaken xs column x after_x
  pub second : IsTaken ys column y after_y
