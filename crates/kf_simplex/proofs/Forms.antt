-- Working forms of the definitions, in which the proofs go.
use Rattle.std.proofs.Common.{◌≡◌, ◌≢◌, ℕ, ◌<◌, ◌≤◌}
use Rattle.std.proofs.Math.IntN.{ℤ, pos, ◌-ℤ◌, ◌*ℤ◌}
use lib.Signed.{◌<ℤ◌}
use Rattle.kf_simplex.specs.Systems.{LinearSystem, right_column}
use Rattle.kf_simplex.specs.Base.{total}
use Rattle.kf_simplex.specs.Tableaus.{Row, Tableau, IsInRowSpace, IsPrimitive, IsRowOf}
use Rattle.kf_simplex.specs.Runs.{key}

-- an objective by its own entries: one positive number at each basic artificial, 0 at the other basic columns
pub record IsObjective (s : LinearSystem) (basis : ℕ → ℕ) (w : Row) : Type 0 where
  pub in_space : IsInRowSpace s w
  pub scale : ℤ
  pub scale_positive : pos 0 <ℤ scale
  pub unknown_zero : (k : ℕ) → k < s.equations → basis k < s.unknowns → w (basis k) ≡ pos 0
  pub artificial : (k : ℕ) → k < s.equations → s.unknowns ≤ basis k → w (basis k) ≡ scale

-- a tableau with its objective in that form
pub record IsWorking (s : LinearSystem) (t : Tableau) : Type 0 where
  pub rows : (i : ℕ) → i < s.equations → IsRowOf s t.basis i (t.rows i)
  pub objective : IsObjective s t.basis t.objective
  pub objective_primitive : (m : ℕ) → m ≤ right_column s → t.objective m ≢ pos 0 → IsPrimitive s t.objective

-- the list f 0 .. f e is above the list of zeros, by first difference
abbrev pub IsLexPositive : ℕ → (ℕ → ℤ) → Type 0
IsLexPositive e f = (n : ℕ) × (n ≤ e) × ((m : ℕ) → m < n → f m ≡ pos 0) × (pos 0 <ℤ f n)

-- each row after a pivot on row r and column c, times a positive number, is a cross product
pub record IsPivot (s : LinearSystem) (rows : ℕ → Row) (r c : ℕ) (news : ℕ → Row) : Type 0 where
  pub column : c < s.unknowns
  pub row : r < s.equations
  pub positive : pos 0 <ℤ rows r c
  pub same : (x : ℕ) → x ≤ right_column s → news r x ≡ rows r x
  pub factor : ℕ → ℤ
  pub factor_positive : (i : ℕ) → i < s.equations → pos 0 <ℤ factor i
  pub crossed : (i x : ℕ) → i < s.equations → i ≢ r → x ≤ right_column s → factor i *ℤ news i x ≡ rows r c *ℤ rows i x -ℤ rows i c *ℤ rows r x

-- the equations can be had back from the rows
pub record Spans (s : LinearSystem) (rows : ℕ → Row) : Type 0 where
  pub scale : ℤ
  pub positive : pos 0 <ℤ scale
  pub share : ℕ → ℕ → ℤ
  pub equation : (k c : ℕ) → k < s.equations → c ≤ right_column s → scale *ℤ s.number k c ≡ total s.equations (λ i. share k i *ℤ rows i c)

-- rows that belong to a basis, with or without common factors
pub record IsBasic (s : LinearSystem) (basis : ℕ → ℕ) (rows : ℕ → Row) : Type 0 where
  pub column : (i : ℕ) → i < s.equations → basis i < right_column s
  pub in_space : (i : ℕ) → i < s.equations → IsInRowSpace s (rows i)
  pub positive : (i : ℕ) → i < s.equations → pos 0 <ℤ rows i (basis i)
  pub zero_elsewhere : (i k : ℕ) → i < s.equations → k < s.equations → k ≢ i → rows i (basis k) ≡ pos 0

-- the solution of a basis, over the common denominator d
pub record IsReadOff (s : LinearSystem) (basis : ℕ → ℕ) (rows : ℕ → Row) (x : ℕ → ℤ) (d : ℤ) : Type 0 where
  pub positive : pos 0 <ℤ d
  pub basic : (i : ℕ) → i < s.equations → basis i < s.unknowns → rows i (basis i) *ℤ x (basis i) ≡ d *ℤ rows i (right_column s)
  pub not_basic : (j : ℕ) → j < s.unknowns → ((i : ℕ) → i < s.equations → basis i ≢ j) → x j ≡ pos 0

-- the objective w' over its scale is below w over its own, by first difference of their deciding lists
abbrev pub Falls : LinearSystem → Row → ℤ → Row → ℤ → Type 0
Falls s w scale w' scale' = IsLexPositive s.equations (λ m. scale' *ℤ key s w m -ℤ scale *ℤ key s w' m)
