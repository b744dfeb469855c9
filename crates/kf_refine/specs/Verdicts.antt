-- Believed: the verdict on two hypers, by the run of the simplex on their equations.
use Rattle.std.specs.Prelude.{◌≡◌, ◌≢◌, ℕ, ◌+◌, ◌*◌, ◌<◌, ◌≤◌, All, min, ℤ, pos, ◌+ℤ◌, ◌*ℤ◌, ◌≤ℤ◌, unsigned_abs, List, [], ◌++◌, length, map, slice_index_or, codes, decimal, Result, Ok, Err}
use Rattle.std.specs.Int.{◌∣◌}
use Rattle.kf_frac.specs.Fractions.{limit}
use Rattle.kf_frac.specs.declared.frac.Frac.{Frac}
use Rattle.kf_gain.specs.declared.table.Action.{Action}
use Rattle.kf_gain.specs.Gains.{TableTree}
use Rattle.kf_gain.specs.Vulnerabilities.{gains_of}
use Rattle.kf_simplex.specs.Answers.{IsAnswer, num_at, den_at}
use Rattle.kf_simplex.specs.Base.{at}
use Rattle.kf_simplex.specs.Systems.{LinearSystem}
use Rattle.kf_simplex.specs.declared.outcome.Outcome.{Outcome}
use Rattle.kf_simplex.specs.declared.outcome.Outcome.TheVariants as outcome
use Rattle.kf_simplex.specs.declared.outcome.SimplexError.{SimplexError}
use Rattle.kf_simplex.specs.declared.outcome.SimplexError.TheVariants as simplex
use Rattle.kf_refine.specs.declared.verdict.RefineError.{RefineError}
use Rattle.kf_refine.specs.declared.verdict.RefineError.TheVariants as error
use Rattle.kf_refine.specs.Refinements.{HyperTree, count, Fraction, entry, IsShaped, Carries, Separates}
use Rattle.kf_refine.specs.Equations.{AreKept, AreEquations, cells_of}

-- whether b leaks no more than a to anyone: yes by a matrix, or no by a gain table, which is given by a T
pub data VerdictOf (T : Type 0) : Type 0 where
  Yes : List (List Fraction) → VerdictOf T
  No : T → VerdictOf T

abbrev pub VerdictTree : Type 0
VerdictTree = VerdictOf TableTree

-- the verdict carries its proof: a matrix, or a table over 1 without negative gains
abbrev pub Proves : HyperTree → HyperTree → VerdictTree → Type 0
Proves a b (Yes rows) = Carries a b rows
Proves a b (No t) = Separates t a b × (t.over ≡ 1) × All (λ z. pos 0 ≤ℤ z) (gains_of t)

-- the matrix of a solution
pub record IsMatrixOf (m n : ℕ) (solution : List Frac) (rows : List (List Fraction)) : Type 0 where
  pub shape : IsShaped m n rows
  pub entries : (i j : ℕ) → i < m → j < n
      → entry rows i j ≡ record { num = num_at solution (i * n + j); den = den_at solution (i * n + j) }

-- the least number, from 0 on, that makes no multiplier negative once it is added: that of the equation of the q-th kept value and inner j
-- of b has the number q * n + j
pub record IsShift (kept n : ℕ) (multipliers : List ℤ) (shift : ℕ) : Type 0 where
  pub enough : (q j : ℕ) → q < kept → j < n → pos 0 ≤ℤ (at multipliers (q * n + j) +ℤ pos shift)
  pub least : (k : ℕ) → ((q j : ℕ) → q < kept → j < n → pos 0 ≤ℤ (at multipliers (q * n + j) +ℤ pos k)) → shift ≤ k

-- the action of inner j of b is named after it; at each kept value it gains the multiplier and the shift, over `factor`
pub record IsActionOf (kept : List ℕ) (n : ℕ) (multipliers : List ℤ) (shift factor j : ℕ) (a : Action) : Type 0 where
  pub name : a.name ≡ codes "b" ++ decimal j
  pub values : map (λ e. e.value) a.gains ≡ kept
  pub gains : (q : ℕ) → q < length kept
      → pos factor *ℤ at (map (λ e. e.gain) a.gains) q ≡ at multipliers (q * n + j) +ℤ pos shift

-- the gain table of multipliers: an action for each inner of b, over 1; the shift is the gain at every other value, and all gains
-- together have no common factor. The multipliers of the last equations, one for each inner of a, aren't used
pub record IsTableOf (values : List ℕ) (n : ℕ) (multipliers : List ℤ) (t : TableTree) : Type 0 where
  pub shift : ℕ
  pub is_shift : IsShift (length values) n multipliers shift
  pub factor : ℕ
  pub some_factor : 0 < factor
  pub over : t.over ≡ 1
  pub rest : pos factor *ℤ t.rest ≡ pos shift
  pub many : length t.actions ≡ n
  pub actions : (j : ℕ) → j < n
      → IsActionOf values n multipliers shift factor j (slice_index_or t.actions j (record { name = []; gains = [] }))
  pub no_common_factor : (d : ℕ) → (d * factor) ∣ shift
      → ((q j : ℕ) → q < length values → j < n → (d * factor) ∣ unsigned_abs (at multipliers (q * n + j) +ℤ pos shift))
      → d ≡ 1

-- the tableau has more than 4,000,000 cells
pub record HasManyCells (a b : HyperTree) (cells : ℕ) : Type 0 where
  pub targets : a.target ≡ b.target
  pub values : List ℕ
  pub are_kept : AreKept a b values
  pub many : 4000000 < cells_of (length values) (count a) (count b)
  pub is : cells ≡ min limit (cells_of (length values) (count a) (count b))

-- on these two hypers, with so many pivots
module _ (a b : HyperTree) (pivots : ℕ) where
  -- the tableau has at most 4,000,000 cells, and the run on the equations answers this
  pub record Runs (answer : Result Outcome SimplexError) : Type 0 where
    pub targets : a.target ≡ b.target
    pub system : LinearSystem
    pub equations : AreEquations a b system
    pub few : cells_of (length equations.values) (count a) (count b) ≤ 4000000
    pub is_answer : IsAnswer system pivots answer

  -- the verdict, or why there is none; want of memory is none of the causes
  abbrev pub IsVerdict : Result VerdictTree RefineError → Type 0
  IsVerdict (Ok (Yes rows)) =
      (solution : List Frac) × Runs (Ok (outcome.Solution solution)) × IsMatrixOf (count a) (count b) solution rows
  IsVerdict (Ok (No t)) =
      (multipliers : List ℤ) × (run : Runs (Ok (outcome.Multipliers multipliers)))
      × IsTableOf run.equations.values (count b) multipliers t
  IsVerdict (Err error.Targets) = a.target ≢ b.target
  IsVerdict (Err (error.Cells cells)) = HasManyCells a b cells
  IsVerdict (Err (error.Wide p)) = Runs (Err (simplex.Wide p))
  IsVerdict (Err error.Budget) = Runs (Err simplex.Budget)
  IsVerdict (Err error.Mem) = ⊥
