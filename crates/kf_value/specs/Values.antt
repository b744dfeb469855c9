-- Believed: values as plain trees, and their order.
use Rattle.std.specs.Prelude.{ℤ, pos, Bool, false, List, [], ◌∷◌, reverse}
use Rattle.std.specs.declared.cmp.Ordering.{Ordering}
use Rattle.std.specs.declared.cmp.Ordering.TheVariants.{Less, Equal, Greater}
use Rattle.std.specs.Ordering.{bool_cmp, int_cmp, ordering_then, is_eq}
use mathlib.Core.List.{foldr}

mutual
  pub data ValueTree : Type 0 where
    Truth : Bool → ValueTree
    Whole : ℤ → ValueTree
    Tuple : ValueTrees → ValueTree
    Set : ValueTrees → ValueTree

  pub data ValueTrees : Type 0 where
    no_value : ValueTrees
    more_values : ValueTree → ValueTrees → ValueTrees

-- a list of values as the parts of a tree, and back
abbrev pub parts : List ValueTree → ValueTrees
parts vs = foldr more_values no_value vs

abbrev pub parts_list : ValueTrees → List ValueTree
parts_list no_value = []
parts_list (more_values v vs) = v ∷ parts_list vs

-- the order of lists by their first difference, a proper prefix before the longer list: each function compares with one value
abbrev pub lexicographic : List (ValueTree → Ordering) → List ValueTree → Ordering
lexicographic [] [] = Equal
lexicographic [] (w ∷ ws) = Less
lexicographic (compared ∷ rest) [] = Greater
lexicographic (compared ∷ rest) (w ∷ ws) = ordering_then (compared w) (lexicographic rest ws)

-- between forms: Booleans, whole numbers, tuples, sets; sets from their greatest elements down, so that the greatest value of exactly one
-- of them decides
abbrev mutual
  pub order : ValueTree → ValueTree → Ordering
  order (Truth b) (Truth c) = bool_cmp b c
  order (Truth b) other = Less
  order (Whole i) (Truth c) = Greater
  order (Whole i) (Whole j) = int_cmp i j
  order (Whole i) other = Less
  order (Tuple vs) (Tuple ws) = lexicographic (orders vs) (parts_list ws)
  order (Tuple vs) (Set ws) = Less
  order (Tuple vs) other = Greater
  order (Set vs) (Set ws) = lexicographic (reverse (orders vs)) (reverse (parts_list ws))
  order (Set vs) other = Greater

  pub orders : ValueTrees → List (ValueTree → Ordering)
  orders no_value = []
  orders (more_values v vs) = order v ∷ orders vs

-- what a value of each form holds; at another form, where it isn't asked for, `false`, 0 and no element
abbrev pub truth : ValueTree → Bool
truth (Truth b) = b
truth _ = false

abbrev pub whole : ValueTree → ℤ
whole (Whole i) = i
whole _ = pos 0

abbrev pub elements : ValueTree → List ValueTree
elements (Set vs) = parts_list vs
elements _ = []

-- neither value comes before the other in the order of values
abbrev pub is_equal : ValueTree → ValueTree → Bool
is_equal v w = is_eq (order v w)
