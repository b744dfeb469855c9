-- Believed: types as plain trees, the values of each in their order, and how many there are.
use Rattle.std.specs.Prelude.{ℕ, ℤ, pos, negsuc, ◌+◌, ◌*◌, ◌^◌, ◌-ℤ◌, ◌+ℤ◌, int_le, Bool, true, false, ◌&&◌, List, [], ◌∷◌, map}
use Rattle.std.specs.List.{flat_map, range_with_len}
use Rattle.kf_value.specs.Values.{ValueTree, Truth, Whole, Tuple, Set, parts}
use mathlib.Core.List.{foldr}

mutual
  pub data TypeTree : Type 0 where
    Boolean : TypeTree
    Range : ℤ → ℤ → TypeTree
    TupleOf : TypeTrees → TypeTree
    SetOf : TypeTree → TypeTree

  pub data TypeTrees : Type 0 where
    no_type : TypeTrees
    more_types : TypeTree → TypeTrees → TypeTrees

-- a list of types as the parts of a tree
abbrev pub type_parts : List TypeTree → TypeTrees
type_parts ts = foldr more_types no_type ts

-- all lists with one value from each list, the first differences deciding their order
abbrev pub combinations : List (List ValueTree) → List (List ValueTree)
combinations [] = [] ∷ []
combinations (vs ∷ others) = flat_map (λ v. map (λ rest. v ∷ rest) (combinations others)) vs

-- all parts of a list: each part of the rest, first without the first value and then with it, so that the k-th value weighs 2 ^ k
abbrev pub subsets : List ValueTree → List (List ValueTree)
subsets [] = [] ∷ []
subsets (v ∷ vs) = flat_map (λ part. part ∷ (v ∷ part) ∷ []) (subsets vs)

-- how many whole numbers there are from the first to the second, of whose difference this is one more
abbrev pub counted : ℤ → ℕ
counted (pos n) = n + 1
counted (negsuc n) = 0

-- the values of a type in their order; the number of a value is its place in this list
unfoldable mutual
  pub values : TypeTree → List ValueTree
  values Boolean = Truth false ∷ Truth true ∷ []
  values (Range lo hi) = map (λ k. Whole (lo +ℤ pos k)) (range_with_len 0 (counted (hi -ℤ lo)))
  values (TupleOf ts) = map (λ vs. Tuple (parts vs)) (combinations (each_values ts))
  values (SetOf base) = map (λ vs. Set (parts vs)) (subsets (values base))

  pub each_values : TypeTrees → List (List ValueTree)
  each_values no_type = []
  each_values (more_types t ts) = values t ∷ each_values ts

-- the product of all numbers of a list
abbrev pub product : List ℕ → ℕ
product ns = foldr (λ n m. n * m) 1 ns

-- how many values a type has
abbrev mutual
  pub count : TypeTree → ℕ
  count Boolean = 2
  count (Range lo hi) = counted (hi -ℤ lo)
  count (TupleOf ts) = product (counts ts)
  count (SetOf base) = 2 ^ count base

  pub counts : TypeTrees → List ℕ
  counts no_type = []
  counts (more_types t ts) = count t ∷ counts ts

-- within a million of 0, and the right way round
abbrev pub in_bounds : ℤ → ℤ → Bool
in_bounds lo hi = int_le (negsuc 999999) lo && (int_le lo hi && int_le hi (pos 1000000))
