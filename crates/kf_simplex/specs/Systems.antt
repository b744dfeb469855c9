-- Believed: systems of linear equations over unknowns that must not be negative.
use Rattle.std.specs.Prelude.{◌≡◌, ◌≢◌, ℕ, ◌+◌, ◌<◌, ℤ, pos, ◌≤ℤ◌}

-- the number that each equation has at each column: first the unknowns, then one artificial column
-- for each equation, then the right side
pub record LinearSystem : Type 0 where
  pub unknowns : ℕ
  pub equations : ℕ
  pub number : ℕ → ℕ → ℤ

-- the column of the right sides
abbrev pub right_column : LinearSystem → ℕ
right_column s = s.unknowns + s.equations

-- an equation has 1 at its own artificial column and 0 at the others, and no right side is negative
pub record IsSystem (s : LinearSystem) : Type 0 where
  pub same : (k : ℕ) → k < s.equations → s.number k (s.unknowns + k) ≡ pos 1
  pub other : (k m : ℕ) → k < s.equations → m < s.equations → k ≢ m → s.number k (s.unknowns + m) ≡ pos 0
  pub right : (k : ℕ) → k < s.equations → pos 0 ≤ℤ s.number k (right_column s)
