-- For bodies: one turn of a run on a table.
use Rattle.std.specs.Prelude.{◌≡◌, ℕ, ◌<◌, ℤ, pos, List, length, ◌∷◌, ◌+◌, ◌*ℤ◌}
use Rattle.kf_simplex.specs.Systems.{LinearSystem}
use Rattle.kf_simplex.specs.Tableaus.{Tableau, Row}
use Rattle.kf_simplex.specs.Runs.{IsRun, Ends, GoesOn, Enters, Leaves, Cause, wide, solution, multipliers, budget}
use Rattle.kf_simplex.specs.Flat.{tableau_of}
use Rattle.kf_simplex.specs.Cells.{AllNarrow}
use Rattle.kf_simplex.specs.declared.table.Stop.{Stop}
use Rattle.kf_simplex.specs.declared.table.Stop.TheVariants as stops
use Rattle.kf_simplex.specs.declared.table.Turn.{Turn}
use Rattle.kf_simplex.specs.declared.table.Turn.TheVariants as turns
use Rattle.kf_simplex.specs.Base.{total}

abbrev pub cause_of : Stop → Cause
cause_of stops.Wide = wide
cause_of stops.Solution = solution
cause_of stops.Multipliers = multipliers
cause_of stops.Budget = budget

abbrev pub system : ℕ → ℕ → (ℕ → ℕ → ℤ) → LinearSystem
system v e number = record { unknowns = v; equations = e; number = number }

-- a system of which only the sizes count
abbrev pub sizes : ℕ → ℕ → LinearSystem
sizes v e = system v e (λ k c. pos 0)

-- the table stands in a run of the system, after so many pivots
pub record InRun (s : LinearSystem) (limit made : ℕ) (cells : ℕ → ℕ → ℤ) (basis : List ℕ) : Type 0 where
  pub before : List Tableau
  pub run : IsRun s limit (tableau_of s cells basis ∷ before)
  pub pivots : made ≡ length before

-- what a turn says of the tableau: why the run ends there, or how it goes on
abbrev pub Judges : LinearSystem → ℕ → ℕ → Tableau → Turn → Type 0
Judges s limit made t (turns.Ends stop) = Ends s limit made t (cause_of stop)
Judges s limit made t (turns.Pivot row column) = GoesOn s limit made t × Enters s t.objective column × Leaves s t.rows column row

-- a pivot lies inside the table, and no cell is wide
abbrev pub IsInside : ℕ → ℕ → (ℕ → ℕ → ℤ) → Turn → Type 0
IsInside v e cells (turns.Ends stop) = Unit {0}
IsInside v e cells (turns.Pivot row column) = (row < e) × (column < v) × ((i : ℕ) → AllNarrow (cells i))

abbrev pub IsEnd : Turn → Type 0
IsEnd (turns.Ends stop) = Unit {0}
IsEnd (turns.Pivot row column) = ⊥

-- the equations' numbers at a column, each times the row's entry at the equation's artificial column
abbrev pub combined : LinearSystem → Row → ℕ → ℤ
combined s r c = total s.equations (λ k. r (s.unknowns + k) *ℤ s.number k c)
