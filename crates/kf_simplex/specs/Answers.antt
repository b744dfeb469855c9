-- Believed: what `solve` answers.
use Rattle.std.specs.Prelude.{◌≡◌, ℕ, ◌+◌, ◌<◌, ℤ, pos, ◌*ℤ◌, List, length, map, slice_index_or, Result, Ok, Err}
use Rattle.kf_frac.specs.declared.frac.Frac.{Frac}
use Rattle.kf_frac.specs.Views.{num_of, den_of}
use Rattle.kf_simplex.specs.declared.outcome.Outcome.{Outcome}
use Rattle.kf_simplex.specs.declared.outcome.Outcome.TheVariants as outcome
use Rattle.kf_simplex.specs.declared.outcome.SimplexError.{SimplexError}
use Rattle.kf_simplex.specs.declared.outcome.SimplexError.TheVariants as error
use Rattle.kf_simplex.specs.Systems.{LinearSystem, right_column}
use Rattle.kf_simplex.specs.Tableaus.{Tableau}
use Rattle.kf_simplex.specs.Runs.{EndsAt, wide, solution, multipliers, budget}
use Rattle.kf_simplex.specs.Base.{at}

-- numerators and denominators of a list of fractions; 0 and 1 past its end
abbrev pub num_at : List Frac → ℕ → ℤ
num_at xs j = slice_index_or (map num_of xs) j (pos 0)

abbrev pub den_at : List Frac → ℕ → ℕ
den_at xs j = slice_index_or (map den_of xs) j 1

-- the solution of a tableau: a basic unknown is the right side of its row over its entry there, another is 0
pub record IsSolutionOf (s : LinearSystem) (t : Tableau) (xs : List Frac) : Type 0 where
  pub len : length xs ≡ s.unknowns
  pub basic : (i : ℕ) → i < s.equations → t.basis i < s.unknowns
      → num_at xs (t.basis i) *ℤ t.rows i (t.basis i) ≡ t.rows i (right_column s) *ℤ pos (den_at xs (t.basis i))
  pub not_basic : (j : ℕ) → j < s.unknowns → ((i : ℕ) → i < s.equations → t.basis i ≡ j → ⊥) → num_at xs j ≡ pos 0

-- the multipliers of a tableau: the objective's entries at the artificial columns
pub record AreMultipliersOf (s : LinearSystem) (t : Tableau) (ys : List ℤ) : Type 0 where
  pub len : length ys ≡ s.equations
  pub entries : (k : ℕ) → k < s.equations → at ys k ≡ t.objective (s.unknowns + k)

-- the answer is that of the run; want of memory is tied to nothing
abbrev pub IsAnswer : LinearSystem → ℕ → Result Outcome SimplexError → Type 0
IsAnswer s limit (Ok (outcome.Solution xs)) = (p : ℕ) × (t : Tableau) × EndsAt s limit p t solution × IsSolutionOf s t xs
IsAnswer s limit (Ok (outcome.Multipliers ys)) = (p : ℕ) × (t : Tableau) × EndsAt s limit p t multipliers × AreMultipliersOf s t ys
IsAnswer s limit (Err (error.Wide p)) = (t : Tableau) × EndsAt s limit p t wide
IsAnswer s limit (Err error.Budget) = (t : Tableau) × EndsAt s limit limit t budget
IsAnswer s limit (Err error.Mem) = Unit {0}
