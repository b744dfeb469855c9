-- Believed: when one hyper leaks no more than another: by a matrix that carries the other's joint weights to its own, and never where
-- some gain separates them (Alvim et al. 2020, refinement of hypers).
use Rattle.std.specs.Prelude.{◌≡◌, ℕ, ◌*◌, ◌<◌, All, ℤ, pos, ◌*ℤ◌, ◌<ℤ◌, ◌≤ℤ◌, List, [], length, slice_index_or}
use Rattle.kf_value.specs.Targets.{Item}
use Rattle.kf_column.specs.Hypers.{Inner}
use Rattle.kf_column.specs.Averages.{joint_weight}
use Rattle.kf_gain.specs.Gains.{TableTree, Table}
use Rattle.kf_gain.specs.Vulnerabilities.{IsPosterior}
use Rattle.kf_simplex.specs.Base.{total}

-- a hyper: what it is about, the scale of its weights, and its inners with their totals
pub record HyperTree : Type 0 where
  pub target : List Item
  pub scale : ℕ
  pub inners : List Inner

-- how many inners it has
abbrev pub count : HyperTree → ℕ
count h = length h.inners

-- the joint weight of a value and the i-th inner, over the scale; 0 past the last inner
abbrev pub joint : HyperTree → ℕ → ℕ → ℕ
joint h x i = joint_weight x (slice_index_or h.inners i (record { entries = []; total = 0 }))

-- ---- yes: a matrix carries the one to the other

-- a whole number over a positive one
pub record Fraction : Type 0 where
  pub num : ℤ
  pub den : ℕ

-- the fraction in row i at place j; 0 where there is none
abbrev pub entry : List (List Fraction) → ℕ → ℕ → Fraction
entry rows i j = slice_index_or (slice_index_or rows i []) j (record { num = pos 0; den = 1 })

-- m rows of n fractions each
pub record IsShaped (m n : ℕ) (rows : List (List Fraction)) : Type 0 where
  pub many : length rows ≡ m
  pub each : All (λ row. length row ≡ n) rows

-- its fractions are the whole numbers r over one positive number d
pub record IsOver (m n : ℕ) (rows : List (List Fraction)) (d : ℕ) (r : ℕ → ℕ → ℤ) : Type 0 where
  pub positive : 0 < d
  pub fractions : (i j : ℕ) → i < m → j < n → 0 < (entry rows i j).den
  pub numbers : (i j : ℕ) → i < m → j < n → r i j *ℤ pos (entry rows i j).den ≡ (entry rows i j).num *ℤ pos d

-- no entry r i j / d is below 0, and each row sums to 1
pub record IsStochastic (m n : ℕ) (d : ℕ) (r : ℕ → ℕ → ℤ) : Type 0 where
  pub not_negative : (i j : ℕ) → i < m → j < n → pos 0 ≤ℤ r i j
  pub rows : (i : ℕ) → i < m → total n (r i) ≡ pos d

-- what each value and inner j of b weigh together is the sum, over the inners of a, of what the value and that inner weigh together
-- times the entry at that inner and j; weights are over the scales
abbrev pub CarriesWeights : HyperTree → HyperTree → ℕ → (ℕ → ℕ → ℤ) → Type 0
CarriesWeights a b d r =
    (x j : ℕ) → j < count b
    → pos b.scale *ℤ total (count a) (λ i. pos (joint a x i) *ℤ r i j) ≡ pos (a.scale * d) *ℤ pos (joint b x j)

-- the matrix proves that b leaks no more than a
pub record Carries (a b : HyperTree) (rows : List (List Fraction)) : Type 0 where
  pub shape : IsShaped (count a) (count b) rows
  pub over : ℕ
  pub number : ℕ → ℕ → ℤ
  pub is_over : IsOver (count a) (count b) rows over number
  pub stochastic : IsStochastic (count a) (count b) over number
  pub carries : CarriesWeights a b over number

-- ---- no: a gain separates them

-- the gain table proves that b leaks more than a: under it the posterior vulnerability of a is below that of b, each over its scale
pub record Separates (t : TableTree) (a b : HyperTree) : Type 0 where
  pub of_a : ℤ
  pub of_b : ℤ
  pub is_of_a : IsPosterior (Table t) a.inners of_a
  pub is_of_b : IsPosterior (Table t) b.inners of_b
  pub below : (of_a *ℤ pos b.scale) <ℤ (of_b *ℤ pos a.scale)
