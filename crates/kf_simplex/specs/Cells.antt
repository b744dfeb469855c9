-- For bodies: rows of numbers, and what a pivot makes of them.
use Rattle.std.specs.Prelude.{◌≡◌, ◌≢◌, ℕ, ◌-◌, ◌^◌, ◌<◌, ◌≤◌, ◌⊎◌, Option, None, Some, ℤ, pos, ◌-ℤ◌, ◌*ℤ◌, ◌<ℤ◌, ◌≤ℤ◌, unsigned_abs, List}
use Rattle.std.specs.declared.cmp.Ordering.{Ordering}
use Rattle.std.specs.declared.cmp.Ordering.TheVariants.{Less, Equal, Greater}
use Rattle.std.specs.Int.{◌∣◌}
use Rattle.kf_simplex.specs.Base.{at}
use Rattle.kf_simplex.specs.Columns.{deciding}

abbrev pub IsNarrowNumber : ℤ → Type 0
IsNarrowNumber z = unsigned_abs z ≤ 2 ^ 62

abbrev pub AllBelow : (ℕ → ℤ) → ℕ → Type 0
AllBelow row b = (k : ℕ) → unsigned_abs (row k) ≤ b

abbrev pub AllNarrow : (ℕ → ℤ) → Type 0
AllNarrow row = (k : ℕ) → unsigned_abs (row k) ≤ 2 ^ 62

-- the greatest common divisor of the first n members
pub record IsCommonGcd (xs : List ℤ) (n g : ℕ) : Type 0 where
  pub divides : (k : ℕ) → k < n → g ∣ unsigned_abs (at xs k)
  pub greatest : (d : ℕ) → ((k : ℕ) → k < n → d ∣ unsigned_abs (at xs k)) → d ∣ g

-- the list `new` over a positive number is `old`, and `new` has no common factor unless `old` is 0 everywhere
pub record IsReduced (old new : ℕ → ℤ) (n : ℕ) : Type 0 where
  pub factor : ℤ
  pub positive : pos 0 <ℤ factor
  pub times : (k : ℕ) → k < n → factor *ℤ new k ≡ old k
  pub primitive : (m : ℕ) → m < n → old m ≢ pos 0 → (d : ℕ) → ((k : ℕ) → k < n → d ∣ unsigned_abs (new k)) → d ≡ 1

-- the cross product of `old` and `chosen` that is 0 at column c, without common factor
abbrev pub IsCrossed : (ℕ → ℤ) → (ℕ → ℤ) → ℕ → (ℕ → ℤ) → ℕ → Type 0
IsCrossed old chosen c new n = IsReduced (λ k. chosen c *ℤ old k -ℤ old c *ℤ chosen k) new n

-- the list `new`, at every place, over a positive number is `old`, and `new` has no common factor unless `old` is 0 everywhere
pub record IsReducedRow (old new : ℕ → ℤ) : Type 0 where
  pub factor : ℤ
  pub positive : pos 0 <ℤ factor
  pub times : (k : ℕ) → factor *ℤ new k ≡ old k
  pub primitive : (m : ℕ) → old m ≢ pos 0 → (d : ℕ) → ((k : ℕ) → d ∣ unsigned_abs (new k)) → d ≡ 1

-- a row as it comes out of a pivot: one that is 0 at column c stays, another is crossed with the chosen row
abbrev pub Passes : (ℕ → ℤ) → (ℕ → ℤ) → ℕ → (ℕ → ℤ) → Type 0
Passes old chosen c new = ((old c ≡ pos 0) × ((k : ℕ) → new k ≡ old k)) ⊎ IsReducedRow (λ k. chosen c *ℤ old k -ℤ old c *ℤ chosen k) new

-- row i, unless it is row r, is passed through a pivot; the others stay
pub record PassesAt (old new : ℕ → ℕ → ℤ) (r c i : ℕ) : Type 0 where
  pub passed : i ≢ r → Passes (old i) (old r) c (new i)
  pub same : i ≡ r → (x : ℕ) → new i x ≡ old i x
  pub others : (k x : ℕ) → k ≢ i → new k x ≡ old k x

-- the rows before i, but for row r, are passed through a pivot; the others stay
pub record PassesRows (old new : ℕ → ℕ → ℤ) (r c i : ℕ) : Type 0 where
  pub passed : (k : ℕ) → k < i → k ≢ r → Passes (old k) (old r) c (new k)
  pub rest : (k x : ℕ) → i ≤ k → new k x ≡ old k x
  pub chosen_row : (x : ℕ) → new r x ≡ old r x

-- which of two lists of n numbers is less at their first difference
abbrev pub IsFirstDifference : (ℕ → ℤ) → (ℕ → ℤ) → ℕ → Ordering → Type 0
IsFirstDifference f g n Less = (m : ℕ) × (m < n) × ((k : ℕ) → k < m → f k ≡ g k) × (f m <ℤ g m)
IsFirstDifference f g n Greater = (m : ℕ) × (m < n) × ((k : ℕ) → k < m → f k ≡ g k) × (g m <ℤ f m)
IsFirstDifference f g n Equal = (k : ℕ) → k < n → f k ≡ g k

-- f is less at the first difference, or there is none
abbrev pub IsAtMost : (ℕ → ℤ) → (ℕ → ℤ) → ℕ → Type 0
IsAtMost f g n = ((m : ℕ) × (m < n) × ((k : ℕ) → k < m → f k ≡ g k) × (f m <ℤ g m)) ⊎ ((k : ℕ) → k < n → f k ≡ g k)

-- the deciding list of row i, each number times the entry of row r at column c; the right sides stand at the last of w columns
abbrev pub key_at : (ℕ → ℕ → ℤ) → ℕ → ℕ → ℕ → ℕ → ℕ → ℕ → ℤ
key_at cells w unknowns c i r m = cells i (deciding unknowns (w - 1) m) *ℤ cells r c

-- which of the first i rows leaves, for column c; none where no entry there is positive
abbrev pub IsLeaving : (ℕ → ℕ → ℤ) → ℕ → ℕ → ℕ → ℕ → Option ℕ → Type 0
IsLeaving cells w unknowns c i None = (k : ℕ) → k < i → cells k c ≤ℤ pos 0
IsLeaving cells w unknowns c i (Some r) = (r < i) × (pos 0 <ℤ cells r c)
    × ((k : ℕ) → k < i → pos 0 <ℤ cells k c → IsAtMost (key_at cells w unknowns c r k) (key_at cells w unknowns c k r) (w - unknowns))

-- the least of n columns with a positive entry
abbrev pub IsEntering : (ℕ → ℤ) → ℕ → Option ℕ → Type 0
IsEntering row n None = (j : ℕ) → j < n → row j ≤ℤ pos 0
IsEntering row n (Some c) = (c < n) × (pos 0 <ℤ row c) × ((j : ℕ) → j < c → row j ≤ℤ pos 0)
