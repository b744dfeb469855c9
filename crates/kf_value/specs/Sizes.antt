-- For bodies: the sizes of types, the first faulty part of a type, and where values stand.
use Rattle.std.specs.Prelude.{◌≡◌, ℕ, ◌^◌, ◌-◌, min, Bool, true, ◌&&◌, List, [], ◌∷◌, map, length, nat_le, slice_get, if◌then◌else◌, Option, None, Some, Result, Ok, Err}
use Rattle.kf_value.specs.declared.ty.TyFault.{TyFault}
use Rattle.kf_value.specs.declared.ty.TyFault.TheVariants.{BadRange, TooManyValues}
use Rattle.kf_value.specs.Values.{ValueTree}
use Rattle.kf_value.specs.Types.{TypeTree, TypeTrees, Boolean, Range, TupleOf, SetOf, no_type, more_types, type_parts, values, product, count, in_bounds}

-- the parts of a tree as a list
abbrev pub type_list : TypeTrees → List TypeTree
type_list no_type = []
type_list (more_types t ts) = t ∷ type_list ts

-- a part with more values than the limit is faulty
abbrev pub crowded : ℕ → ℕ → Option TyFault
crowded limit n = if nat_le n limit then None else Some TooManyValues

abbrev pub crowded_after : Option TyFault → ℕ → TypeTree → Option TyFault
crowded_after None limit t = crowded limit (count t)
crowded_after (Some fault) limit t = Some fault

abbrev pub first_of : Option TyFault → Option TyFault → Option TyFault
first_of None later = later
first_of (Some fault) later = Some fault

-- the first faulty part of a type that may have `limit` values: its parts from left to right, then itself; a set's base may have 16
abbrev mutual
  pub fault_within : ℕ → TypeTree → Option TyFault
  fault_within limit Boolean = crowded limit 2
  fault_within limit (Range lo hi) = if in_bounds lo hi then crowded limit (count (Range lo hi)) else Some BadRange
  fault_within limit (TupleOf ts) = crowded_after (first_fault ts) limit (TupleOf ts)
  fault_within limit (SetOf base) = crowded_after (fault_within 16 base) limit (SetOf base)

  pub first_fault : TypeTrees → Option TyFault
  first_fault no_type = None
  first_fault (more_types t ts) = first_of (fault_within 65536 t) (first_fault ts)

abbrev pub fault_of : TypeTree → Option TyFault
fault_of t = fault_within 65536 t

-- the number of values of a type that may have `limit` of them, or the fault of its first faulty part
abbrev pub size_within : ℕ → TypeTree → Result ℕ TyFault
size_within limit t = elim (fault_within limit t) [ None ↦ Ok (count t) | Some fault ↦ Err fault ]

abbrev pub size_of : TypeTree → Result ℕ TyFault
size_of t = size_within 65536 t

-- the product of the sizes as far as 32 bits hold it, or the first fault
abbrev pub capped_product : List TypeTree → Result ℕ TyFault
capped_product ts = elim (first_fault (type_parts ts)) [ None ↦ Ok (min (product (map count ts)) (2 ^ 32 - 1)) | Some fault ↦ Err fault ]

-- at each nesting, a tuple has at least two parts
abbrev mutual
  pub well_formed : TypeTree → Bool
  well_formed Boolean = true
  well_formed (Range lo hi) = true
  well_formed (TupleOf ts) = nat_le 2 (length (type_list ts)) && each_well_formed ts
  well_formed (SetOf base) = well_formed base

  pub each_well_formed : TypeTrees → Bool
  each_well_formed no_type = true
  each_well_formed (more_types t ts) = well_formed t && each_well_formed ts

-- a type with no faulty part
abbrev pub HasSize : TypeTree → Type 0
HasSize t = fault_of t ≡ None

-- the value stands at this place among the values of the type
abbrev pub HasNumber : TypeTree → ValueTree → ℕ → Type 0
HasNumber t v n = slice_get (values t) n ≡ Some v

-- where an element stands in a list, or that it stands nowhere
abbrev pub IsPlaceIn : {X : Type 0} → List X → X → Option ℕ → Type 0
IsPlaceIn xs x (Some n) = slice_get xs n ≡ Some x
IsPlaceIn xs x None = (n : ℕ) → ¬ (slice_get xs n ≡ Some x)
