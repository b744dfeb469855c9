-- Believed: the equations that decide whether one hyper refines another. Their unknowns are the entries of the matrix.
use Rattle.std.specs.Prelude.{◌≡◌, ℕ, ◌+◌, ◌-◌, ◌*◌, ◌<◌, ◌↔◌, ◌==◌, nat_lt, pos, List, length, Contains, slice_index, if◌then◌else◌}
use Rattle.std.specs.List.Sorted.{IsStrictlyIncreasing}
use Rattle.std.specs.Int.{◌∣◌}
use Rattle.kf_column.specs.Averages.{average_weight}
use Rattle.kf_simplex.specs.Systems.{LinearSystem, IsSystem, right_column}
use Rattle.kf_refine.specs.Refinements.{HyperTree, count, joint}

-- for these two hypers
module _ (a b : HyperTree) where
  -- ---- which values matter

  -- the value has weight in a or in b
  abbrev pub HasWeight : ℕ → Type 0
  HasWeight x = 0 < average_weight a.inners x + average_weight b.inners x

  -- the weights of a value: those with the inners of a, and then those with the inners of b
  abbrev pub weight_in : ℕ → ℕ → ℕ
  weight_in x k = if nat_lt k (count a) then joint a x k else joint b x (k - count a)

  -- the weights of two values stand in one ratio
  abbrev pub InRatio : ℕ → ℕ → Type 0
  InRatio x y = (k l : ℕ) → weight_in x k * weight_in y l ≡ weight_in x l * weight_in y k

  -- a value is kept where it has weight, and no smaller value of weight stands in one ratio with it; they stand in ascending order
  pub record AreKept (xs : List ℕ) : Type 0 where
    pub ascending : IsStrictlyIncreasing xs
    pub kept : (x : ℕ) → Contains xs x ↔ (HasWeight x × ((y : ℕ) → y < x → HasWeight y → InRatio x y → ⊥))

  -- ---- their weights as whole numbers

  -- u x i are the weights of kept values with the inners of a, and v x j those with the inners of b: each over its hyper's scale, and all
  -- times one positive number, factor / over, which leaves whole numbers without common factor
  pub record AreWhole (xs : List ℕ) (u v : ℕ → ℕ → ℕ) : Type 0 where
    pub factor : ℕ
    pub over : ℕ
    pub some_factor : 0 < factor
    pub some_over : 0 < over
    pub of_a : (x i : ℕ) → Contains xs x → i < count a → over * a.scale * u x i ≡ factor * joint a x i
    pub of_b : (x j : ℕ) → Contains xs x → j < count b → over * b.scale * v x j ≡ factor * joint b x j
    pub no_common_factor : (d : ℕ) → ((x i : ℕ) → Contains xs x → i < count a → d ∣ u x i)
        → ((x j : ℕ) → Contains xs x → j < count b → d ∣ v x j) → d ≡ 1

  -- ---- the equations

  -- one for each kept value and each inner j of b, the values in their order: the sum over i of u x i times the unknown of i and j is
  -- v x j; and then one for each inner i of a: the unknowns of i sum to 1. The unknown of i and j is the one with the number
  -- i * count b + j
  pub record AreEquations (s : LinearSystem) : Type 0 where
    pub system : IsSystem s
    pub values : List ℕ
    pub are_kept : AreKept values
    pub u : ℕ → ℕ → ℕ
    pub v : ℕ → ℕ → ℕ
    pub are_whole : AreWhole values u v
    pub unknowns : s.unknowns ≡ count a * count b
    pub equations : s.equations ≡ length values * count b + count a
    pub weight : (q j i l : ℕ) → q < length values → j < count b → i < count a → l < count b
        → s.number (q * count b + j) (i * count b + l) ≡ (if j == l then pos (u (slice_index values q) i) else pos 0)
    pub sum : (q j : ℕ) → q < length values → j < count b
        → s.number (q * count b + j) (right_column s) ≡ pos (v (slice_index values q) j)
    pub entry : (p i l : ℕ) → p < count a → i < count a → l < count b
        → s.number (length values * count b + p) (i * count b + l) ≡ (if p == i then pos 1 else pos 0)
    pub one : (p : ℕ) → p < count a → s.number (length values * count b + p) (right_column s) ≡ pos 1

-- how many cells the tableau of these equations has, for so many kept values and inners
abbrev pub cells_of : ℕ → ℕ → ℕ → ℕ
cells_of kept m n = (kept * n + m + 1) * (m * n + (kept * n + m) + 1)
