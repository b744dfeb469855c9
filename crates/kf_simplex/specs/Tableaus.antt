-- Believed: the tableau of a basis. Its numbers are whole and stated by properties alone, with no elimination.
use Rattle.std.specs.Prelude.{◌≡◌, ◌≢◌, ℕ, ◌+◌, ◌<◌, ◌≤◌, ℤ, pos, ◌*ℤ◌, ◌<ℤ◌, unsigned_abs}
use Rattle.std.specs.Int.{◌∣◌}
use Rattle.kf_simplex.specs.Systems.{LinearSystem, right_column}
use Rattle.kf_simplex.specs.Base.{total}

-- a list of numbers, one for each column
abbrev pub Row : Type 0
Row = ℕ → ℤ

-- the row is a combination of the equations, each times the row's entry at the equation's artificial column
abbrev pub IsInRowSpace : LinearSystem → Row → Type 0
IsInRowSpace s r = (c : ℕ) → c ≤ right_column s → r c ≡ total s.equations (λ k. r (s.unknowns + k) *ℤ s.number k c)

-- the entries have no common factor
abbrev pub IsPrimitive : LinearSystem → Row → Type 0
IsPrimitive s r = (d : ℕ) → ((c : ℕ) → c ≤ right_column s → d ∣ unsigned_abs (r c)) → d ≡ 1

-- the row of the i-th basic column
pub record IsRowOf (s : LinearSystem) (basis : ℕ → ℕ) (i : ℕ) (r : Row) : Type 0 where
  pub in_space : IsInRowSpace s r
  pub positive : pos 0 <ℤ r (basis i)
  pub zero_elsewhere : (k : ℕ) → k < s.equations → k ≢ i → r (basis k) ≡ pos 0
  pub primitive : IsPrimitive s r

-- but for positive factors, w is the sum of the rows of basic artificials, each divided by its own
-- basic entry: row i stands in it `part i` times, and that is `common` over its basic entry
pub record IsSumOfRows (s : LinearSystem) (basis : ℕ → ℕ) (rows : ℕ → Row) (w : Row) : Type 0 where
  pub times : ℤ
  pub times_positive : pos 0 <ℤ times
  pub common : ℤ
  pub common_positive : pos 0 <ℤ common
  pub part : ℕ → ℤ
  pub artificial : (i : ℕ) → i < s.equations → s.unknowns ≤ basis i → part i *ℤ rows i (basis i) ≡ common
  pub unknown : (i : ℕ) → i < s.equations → basis i < s.unknowns → part i ≡ pos 0
  pub sum : (c : ℕ) → c ≤ right_column s → times *ℤ w c ≡ total s.equations (λ i. part i *ℤ rows i c)

-- a basis with its rows and its objective row
pub record Tableau : Type 0 where
  pub basis : ℕ → ℕ
  pub rows : ℕ → Row
  pub objective : Row

-- the tableau of its basis; the objective has no common factor, unless it is 0 everywhere
pub record IsTableau (s : LinearSystem) (t : Tableau) : Type 0 where
  pub rows : (i : ℕ) → i < s.equations → IsRowOf s t.basis i (t.rows i)
  pub objective : IsSumOfRows s t.basis t.rows t.objective
  pub objective_primitive : (m : ℕ) → m ≤ right_column s → t.objective m ≢ pos 0 → IsPrimitive s t.objective
