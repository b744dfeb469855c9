-- For bodies: a `System` as a system of equations.
use Rattle.std.specs.Prelude.{ℕ, ◌+◌, ◌==◌, nat_lt, ℤ, pos, List, [], map, length, slice_index_or, if◌then◌else◌}
use Rattle.kf_simplex.specs.declared.system.Equation.{Equation}
use Rattle.kf_simplex.specs.declared.system.System.{System}
use Rattle.kf_simplex.specs.declared.system.SparseEquation.{SparseEquation}
use Rattle.kf_simplex.specs.declared.system.SparseSystem.{SparseSystem}
use Rattle.kf_simplex.specs.declared.row.Entry.{Entry}
use Rattle.kf_simplex.specs.Systems.{LinearSystem}
use Rattle.kf_simplex.specs.Base.{at}
use Rattle.kf_simplex.specs.Entries.{number_in}

-- the coefficients of the k-th equation
abbrev pub coefficients : List Equation → ℕ → List ℤ
coefficients rows k = slice_index_or (map (λ q. q.coefs) rows) k []

-- its right side
abbrev pub right_side : List Equation → ℕ → ℤ
right_side rows k = at (map (λ q. q.rhs) rows) k

-- the number of equation k at a column, of v unknowns and e equations: a coefficient, then 1 at its own
-- artificial column and 0 at the others, then the right side
unfoldable pub entry : ℕ → ℕ → (ℕ → ℤ) → ℤ → ℕ → ℕ → ℤ
entry v e coef rhs k c = if nat_lt c v then coef c else (if c == v + e then rhs else (if c == v + k then pos 1 else pos 0))

unfoldable pub number_at : ℕ → List Equation → ℕ → ℕ → ℤ
number_at v rows k c = entry v (length rows) (at (coefficients rows k)) (right_side rows k) k c

abbrev pub linear : System → LinearSystem
linear s = record { unknowns = s.unknowns; equations = length s.rows; number = number_at s.unknowns s.rows }

-- ---- equations by their coefficients that aren't 0

-- the coefficients of the k-th equation, by their columns
abbrev pub coefficients_in : List SparseEquation → ℕ → List Entry
coefficients_in rows k = slice_index_or (map (λ q. q.coefs.entries.items) rows) k []

abbrev pub right_side_in : List SparseEquation → ℕ → ℤ
right_side_in rows k = at (map (λ q. q.rhs) rows) k

unfoldable pub sparse_number : ℕ → List SparseEquation → ℕ → ℕ → ℤ
sparse_number v rows k c = entry v (length rows) (number_in (coefficients_in rows k)) (right_side_in rows k) k c

abbrev pub sparse : SparseSystem → LinearSystem
sparse s = record { unknowns = s.unknowns; equations = length s.rows.items; number = sparse_number s.unknowns s.rows.items }
