-- For bodies: values that can be written as literals.
use Rattle.std.specs.Prelude.{◌≡◌, ℤ, pos, negsuc, ◌≤◌, ◌<◌, ◌≤ℤ◌, Bool, List, [], ◌∷◌, length, map, false, get_or}
use Rattle.std.specs.List.{AllByRecursion as Each, zip}
use Rattle.std.specs.List.Sorted.{IsStrictlySortedBy}
use Rattle.kf_value.specs.Values.{ValueTree, Truth, Whole, Tuple, Set, parts, order}
use Rattle.kf_value.specs.Types.{TypeTree, TypeTrees, Boolean, Range, TupleOf, SetOf, no_type, more_types, count, values}
use Rattle.kf_value.specs.Sizes.{HasSize}
use Rattle.kf_prior.specs.FullSources.{full_decl}
use Rattle.kf_ast.specs.Sources.{DeclTree}
use Rattle.kf_value.specs.Values as value

-- the number is at most a million from 0
pub record IsShort (z : ℤ) : Type 0 where
  pub low : negsuc 999999 ≤ℤ z
  pub high : z ≤ℤ pos 1000000

-- the base of a set has a size and a least value
pub record IsBase (base : TypeTree) : Type 0 where
  pub sized : HasSize base
  pub some : 0 < count base

-- the first of a type's values
abbrev pub least_of : TypeTree → ValueTree
least_of t = get_or (values t) 0 (value.Truth false)

-- the value has a literal as one of the type
abbrev mutual
  pub HasLiteral : TypeTree → ValueTree → Type 0
  HasLiteral Boolean v = (b : Bool) × (v ≡ Truth b)
  HasLiteral (Range lo hi) v = (z : ℤ) × (v ≡ Whole z) × IsShort z
  HasLiteral (TupleOf ts) v = (vs : List ValueTree) × (v ≡ Tuple (parts vs)) × (2 ≤ length vs) × HaveLiterals ts vs
  HasLiteral (SetOf base) v =
      (vs : List ValueTree) × (v ≡ Set (parts vs)) × IsStrictlySortedBy order vs × IsBase base × HasLiteral base (least_of base)
      × Each (HasLiteral base) vs

  pub HaveLiterals : TypeTrees → List ValueTree → Type 0
  HaveLiterals no_type [] = Unit {0}
  HaveLiterals (more_types t ts) (v ∷ vs) = HasLiteral t v × HaveLiterals ts vs
  HaveLiterals _ _ = ⊥

abbrev pub full_decls : List TypeTree → List DeclTree → List DeclTree
full_decls ts ds = map (λ p. full_decl p.0 p.1) (zip ts ds)
