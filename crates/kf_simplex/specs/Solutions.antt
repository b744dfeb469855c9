-- For bodies: solutions of a system, and multipliers that exclude them.
use Rattle.std.specs.Prelude.{◌≡◌, ℕ, ◌<◌, ℤ, pos, ◌*ℤ◌, ◌<ℤ◌, ◌≤ℤ◌, List}
use Rattle.kf_simplex.specs.Systems.{LinearSystem, right_column}
use Rattle.kf_simplex.specs.Base.{total, at}
use Rattle.kf_simplex.specs.Answers.{num_at, den_at}
use Rattle.kf_simplex.specs.declared.outcome.Outcome.{Outcome}
use Rattle.kf_frac.specs.declared.frac.Frac.{Frac}
use Rattle.kf_simplex.specs.declared.outcome.Outcome.TheVariants as outcome

-- the fractions x j / d solve every equation, and none is negative
pub record Solves (s : LinearSystem) (x : ℕ → ℤ) (d : ℤ) : Type 0 where
  pub positive : pos 0 <ℤ d
  pub not_negative : (j : ℕ) → j < s.unknowns → pos 0 ≤ℤ x j
  pub equation : (k : ℕ) → k < s.equations → total s.unknowns (λ j. s.number k j *ℤ x j) ≡ d *ℤ s.number k (right_column s)

-- the equations, each times its multiplier, give every unknown a sum of at most 0 and the right sides a sum above 0
pub record Refutes (s : LinearSystem) (y : ℕ → ℤ) : Type 0 where
  pub unknowns : (j : ℕ) → j < s.unknowns → total s.equations (λ k. y k *ℤ s.number k j) ≤ℤ pos 0
  pub right : pos 0 <ℤ total s.equations (λ k. y k *ℤ s.number k (right_column s))

abbrev pub HasNoSolution : LinearSystem → Type 0
HasNoSolution s = (x : ℕ → ℤ) (d : ℤ) → Solves s x d → ⊥

-- the fractions solve the system: over one denominator they are whole numbers that do
abbrev pub AreSolution : LinearSystem → List Frac → Type 0
AreSolution s xs =
    (x : ℕ → ℤ) × (d : ℤ) × Solves s x d × ((j : ℕ) → j < s.unknowns → x j *ℤ pos (den_at xs j) ≡ num_at xs j *ℤ d)

-- an outcome is right by its own numbers
abbrev pub IsRight : LinearSystem → Outcome → Type 0
IsRight s (outcome.Solution xs) = AreSolution s xs
IsRight s (outcome.Multipliers ys) = Refutes s (at ys)
