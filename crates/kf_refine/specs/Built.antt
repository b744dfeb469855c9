-- For bodies: common divisors of joint weights, and the numbers of the equations that are built.
use Rattle.std.specs.Prelude.{◌≡◌, ℕ, ◌-◌, ◌*◌, ◌/◌, ◌%◌, ◌^◌, ◌<◌, ◌≤◌, ◌⊎◌, ◌==◌, nat_lt, All, Contains, ℤ, pos, List, length, map, slice_index, if◌then◌else◌, ◌+◌}
use Rattle.std.specs.Int.{◌∣◌}
use Rattle.kf_frac.specs.Divisors.{gcd_of}
use Rattle.kf_simplex.specs.declared.row.Entry.{Entry}
use Rattle.kf_simplex.specs.declared.system.SparseEquation.{SparseEquation}
use Rattle.kf_simplex.specs.Base.{at}
use Rattle.kf_simplex.specs.Cells.{AllNarrow}
use Rattle.kf_simplex.specs.Entries.{IsRowWithin, number_in}
use Rattle.kf_simplex.specs.Views.{coefficients_in, right_side_in}
use Rattle.kf_refine.specs.Refinements.{HyperTree, count, joint}

-- ---- divisors and factors

-- the greatest common divisor of the first n numbers
pub record IsDivisor (f : ℕ → ℕ) (n g : ℕ) : Type 0 where
  pub divides : (i : ℕ) → i < n → g ∣ f i
  pub greatest : (d : ℕ) → ((i : ℕ) → i < n → d ∣ f i) → d ∣ g

-- the greatest common divisor of the joint weights of the first k values
pub record IsDivisorOf (h : HyperTree) (xs : List ℕ) (k g : ℕ) : Type 0 where
  pub divides : (q i : ℕ) → q < k → i < count h → g ∣ joint h (slice_index xs q) i
  pub greatest : (d : ℕ) → ((q i : ℕ) → q < k → i < count h → d ∣ joint h (slice_index xs q) i) → d ∣ g

-- g' and t' are g and t over a common divisor, and have none themselves
pub record InLowest (g t g' t' : ℕ) : Type 0 where
  pub common : ℕ
  pub top : common * g' ≡ g
  pub bottom : common * t' ≡ t
  pub coprime : gcd_of g' t' ≡ 1

-- the numbers p and q, in lowest terms, stand in the ratio of g / t and h / u
pub record AreFactors (g t h u p q : ℕ) : Type 0 where
  pub some_p : 0 < p
  pub some_q : 0 < q
  pub ratio : p * (h * t) ≡ q * (g * u)
  pub coprime : gcd_of p q ≡ 1

-- ---- the numbers of equations

-- a joint weight as a whole number
abbrev pub whole : HyperTree → ℕ → ℕ → ℕ → ℕ → ℕ
whole h divisor factor x i = joint h x i / divisor * factor

-- the coefficient of unknown c in the equation of a value with the weights u and of inner j, of n
unfoldable pub weight_number : ℕ → (ℕ → ℕ) → ℕ → ℕ → ℤ
weight_number n u j c = if j == c % n then pos (u (c / n)) else pos 0

-- the coefficient of unknown c in the equation of inner p, whose n unknowns sum to 1
unfoldable pub sum_number : ℕ → ℕ → ℕ → ℤ
sum_number n p c = if p == c / n then pos 1 else pos 0

-- the coefficient of unknown c in equation k
unfoldable pub coefficient_number : ℕ → List ℕ → (ℕ → ℕ → ℕ) → ℕ → ℕ → ℤ
coefficient_number n xs u k c =
    if nat_lt k (length xs * n) then weight_number n (u (slice_index xs (k / n))) (k % n) c else sum_number n (k - length xs * n) c

-- the right side of equation k
unfoldable pub right_number : ℕ → List ℕ → (ℕ → ℕ → ℕ) → ℕ → ℤ
right_number n xs v k = if nat_lt k (length xs * n) then pos (v (slice_index xs (k / n)) (k % n)) else pos 1

-- these entries are a value's weights with so many inners, by the numbers of the inners, and none passes 2^62
pub record AreWeights (inners : ℕ) (u : ℕ → ℕ) (entries : List Entry) : Type 0 where
  pub inside : All (λ e. e.column < inners) entries
  pub each : (i : ℕ) → i < inners → number_in entries i ≡ pos (u i)
  pub narrow : AllNarrow (number_in entries)

-- the entries, each at place j of the n columns that belong to its own
abbrev pub spread : ℕ → ℕ → List Entry → List Entry
spread n j entries = map (λ e. record { column = e.column * n + j; number = e.number }) entries

-- an equation has these numbers
pub record HasNumbers (unknowns : ℕ) (coefficient : ℕ → ℤ) (right : ℤ) (e : SparseEquation) : Type 0 where
  pub within : IsRowWithin unknowns e.coefs.entries.items
  pub coefs : (c : ℕ) → c < unknowns → number_in e.coefs.entries.items c ≡ coefficient c
  pub rhs : e.rhs ≡ right

-- and so have these, one after the other
pub record HaveNumbers (unknowns : ℕ) (coefficient : ℕ → ℕ → ℤ) (right : ℕ → ℤ) (rows : List SparseEquation) : Type 0 where
  pub within : All (λ e. IsRowWithin unknowns e.coefs.entries.items) rows
  pub coefs : (k c : ℕ) → k < length rows → c < unknowns → number_in (coefficients_in rows k) c ≡ coefficient k c
  pub rights : (k : ℕ) → k < length rows → right_side_in rows k ≡ right k

-- these are the first k equations of values with the weights u at m inners and v at n
abbrev pub AreBuilt : ℕ → ℕ → List ℕ → (ℕ → ℕ → ℕ) → (ℕ → ℕ → ℕ) → ℕ → List SparseEquation → Type 0
AreBuilt m n xs u v k rows = (length rows ≡ k) × HaveNumbers (m * n) (coefficient_number n xs u) (right_number n xs v) rows

-- one of a value's weights with n inners passes 2^62
abbrev pub IsWide : ℕ → (ℕ → ℕ) → Type 0
IsWide n u = (i : ℕ) × (i < n) × (2 ^ 62 < u i)

-- one of these values has such a weight, u at m inners or v at n
abbrev pub HasWide : ℕ → ℕ → List ℕ → (ℕ → ℕ → ℕ) → (ℕ → ℕ → ℕ) → Type 0
HasWide m n xs u v = (x : ℕ) × Contains xs x × (IsWide m (u x) ⊎ IsWide n (v x))

-- the multiplier of the equation of the q-th kept value and inner j of b
abbrev pub multiplier : ℕ → List ℤ → ℕ → ℕ → ℤ
multiplier n multipliers q j = at multipliers (q * n + j)
