-- The turns of the loops that number tuples and sets.
use Rattle.std.proofs.Common.{◌≡◌, ◌≢◌, ℕ, ◌+◌, ◌*◌, ◌^◌, ◌<◌, ◌≤◌, List, ◌∷◌, length, map, drop, get_or, slice_get, Some, None, arith}
use Rattle.std.specs.List.{AllByRecursion as Each}
use Rattle.std.specs.List.Sorted.{IsStrictlySortedBy}
use Rattle.std.proofs.lemmas.List.{length-map}
use Rattle.kf_value.specs.declared.value.Value.{Value}
use Rattle.kf_value.specs.declared.ty.Ty.{Ty}
use Rattle.kf_value.specs.Values.{ValueTree, Tuple, Set, parts, order}
use Rattle.kf_value.specs.Forms.{IsWellFormed}
use Rattle.kf_value.specs.Types.{TypeTree, TupleOf, SetOf, type_parts, values, count}
use Rattle.kf_value.specs.Sizes.{HasSize, IsPlaceIn}
use Rattle.kf_value.specs.TypeViews.{type_tree}
use Rattle.kf_value.specs.Views.{value_tree}
use Rattle.kf_value.proofs.Ascending.{length-values, values_ascend}
use Rattle.kf_value.proofs.ByForm.{tuple_place, set_place, tuple_formed, set_formed}
use Rattle.kf_value.proofs.ListLemmas.{left_step, left_end, mapped_read}
use Rattle.kf_value.proofs.Parts.{PlaceSoFar, place_start, place_step, place_end, part_fits, part_sized, no_combination, length-combination}
use Rattle.kf_value.proofs.Sets.{SumSoFar, sum_start, sum_step, sum_fits, sum_end, no_set}
use Rattle.kf_value.proofs.Sizing.{tuple_sized, base_sized}
use Rattle.kf_value.proofs.Sorting.{sorted-tail}

-- ---- the elements of a set

pub record ElementsLeft (base : TypeTree) (elements left : List Value) (n : ℕ) : Type 0 where
  pub sum : SumSoFar (values base) (map value_tree elements) (map value_tree left) n
  pub ascending : IsStrictlySortedBy order (map value_tree left)
  pub formed : Each IsWellFormed (map value_tree left)

pub elements_start : (base : TypeTree) (elements : List Value) → IsWellFormed (Set (parts (map value_tree elements))) → ElementsLeft base elements elements 0
elements_start base elements formed =
    let known = set_formed (map value_tree elements) formed in
    record { sum = sum_start (values base) (map value_tree elements); ascending = known.0; formed = known.1 }

module _ (base : TypeTree) (sized : HasSize (SetOf base)) (elements : List Value) (i n : ℕ) (x : Value) (within : i < length elements)
    (read : x ≡ get_or elements i x) (left : ElementsLeft base elements (drop i elements) n) where
  later : List ValueTree
  later = map value_tree (drop (i + 1) elements)

  here : map value_tree (drop i elements) ≡ value_tree x ∷ later
  unfolding later
  here = left_step value_tree elements i x within read

  sum_here : SumSoFar (values base) (map value_tree elements) (value_tree x ∷ later) n
  sum_here = rw here at left.sum

  few : length (values base) ≤ 16
  few = rw (length-values base) (base_sized base sized).1

  pub element_formed : IsWellFormed (value_tree x)
  element_formed = (rw here at left.formed).0

  pub elements_step : (k : ℕ) → slice_get (values base) k ≡ Some (value_tree x) → ElementsLeft base elements (drop (i + 1) elements) (n + 2 ^ k)
  unfolding later
  elements_step k at = record {
    sum = sum_step (values base) (map value_tree elements) later n k (value_tree x) (values_ascend base) (rw here at left.ascending) at sum_here;
    ascending = sorted-tail order (value_tree x) later (rw here at left.ascending);
    formed = (rw here at left.formed).1;
  }

  pub element_fits : (k : ℕ) → slice_get (values base) k ≡ Some (value_tree x) → n + 2 ^ k < 2 ^ 32
  element_fits k at = sum_fits (values base) (map value_tree elements) later n k (value_tree x) few at sum_here

  pub element_missing : ((k : ℕ) → ¬ (slice_get (values base) k ≡ Some (value_tree x)))
      → IsPlaceIn (values (SetOf base)) (Set (parts (map value_tree elements))) None
  element_missing missing =
      set_place base (map value_tree elements) None
      (no_set (values base) (map value_tree elements) i (value_tree x) (mapped_read value_tree elements i x within read) missing)

pub elements_end : (base : TypeTree) (elements : List Value) (i n : ℕ) → length elements ≤ i → ElementsLeft base elements (drop i elements) n
    → IsPlaceIn (values (SetOf base)) (Set (parts (map value_tree elements))) (Some n)
elements_end base elements i n past left =
    set_place base (map value_tree elements) (Some n)
    (sum_end (values base) (map value_tree elements) n (rw (left_end value_tree elements i past) at left.sum))

-- ---- the parts of a tuple

pub record PartsLeft (types : List Ty) (all : List Value) (later : List Ty) (left : List Value) (n : ℕ) : Type 0 where
  pub place : PlaceSoFar (map type_tree types) (map value_tree all) (map type_tree later) (map value_tree left) n
  pub formed : Each IsWellFormed (map value_tree left)

module _ (types : List Ty) (sized : HasSize (TupleOf (type_parts (map type_tree types)))) (all : List Value) where
  pub parts_start : IsWellFormed (Tuple (parts (map value_tree all))) → PartsLeft types all types all 0
  parts_start formed = record {
    place = place_start (map type_tree types) (map value_tree all) (tuple_sized (map type_tree types) sized).0;
    formed = tuple_formed (map value_tree all) formed;
  }

  module _ (i n : ℕ) (t : Ty) (v : Value) (in_types : i < length types) (in_all : i < length all)
      (read_t : t ≡ get_or types i t) (read_v : v ≡ get_or all i v) (left : PartsLeft types all (drop i types) (drop i all) n) where
    types_here : map type_tree (drop i types) ≡ type_tree t ∷ map type_tree (drop (i + 1) types)
    types_here = left_step type_tree types i t in_types read_t

    parts_here : map value_tree (drop i all) ≡ value_tree v ∷ map value_tree (drop (i + 1) all)
    parts_here = left_step value_tree all i v in_all read_v

    place_here : PlaceSoFar (map type_tree types) (map value_tree all) (type_tree t ∷ map type_tree (drop (i + 1) types)) (value_tree v ∷ map value_tree (drop (i + 1) all)) n
    place_here = rw (types_here, parts_here) at left.place

    pub part_has_size : HasSize (type_tree t)
    part_has_size =
        part_sized (map type_tree types) (map value_tree all) (type_tree t) (map type_tree (drop (i + 1) types)) (value_tree v ∷ map value_tree (drop (i + 1) all)) n place_here

    pub part_formed : IsWellFormed (value_tree v)
    part_formed = (rw parts_here at left.formed).0

    pub product_fits : (n + 1) * count (type_tree t) ≤ 65536
    product_fits =
        part_fits (map type_tree types) (map value_tree all) (type_tree t) (map type_tree (drop (i + 1) types)) (value_tree v ∷ map value_tree (drop (i + 1) all)) n
        (tuple_sized (map type_tree types) sized).1 place_here

    pub parts_step : (k : ℕ) → slice_get (values (type_tree t)) k ≡ Some (value_tree v) → PartsLeft types all (drop (i + 1) types) (drop (i + 1) all) (n * count (type_tree t) + k)
    parts_step k at = record {
      place = place_step (map type_tree types) (map value_tree all) (type_tree t) (map type_tree (drop (i + 1) types)) (value_tree v) (map value_tree (drop (i + 1) all)) n k at place_here;
      formed = (rw parts_here at left.formed).1;
    }

    pub part_missing : ((k : ℕ) → ¬ (slice_get (values (type_tree t)) k ≡ Some (value_tree v)))
        → IsPlaceIn (values (TupleOf (type_parts (map type_tree types)))) (Tuple (parts (map value_tree all))) None
    part_missing missing =
        tuple_place (map type_tree types) (map value_tree all) None
        (no_combination (map type_tree types) (map value_tree all) i (type_tree t) (value_tree v)
        (mapped_read type_tree types i t in_types read_t) (mapped_read value_tree all i v in_all read_v) missing)

  pub parts_end : (i n : ℕ) → length types ≤ i → length all ≤ i → PartsLeft types all (drop i types) (drop i all) n
      → IsPlaceIn (values (TupleOf (type_parts (map type_tree types)))) (Tuple (parts (map value_tree all))) (Some n)
  parts_end i n past_types past_all left =
      tuple_place (map type_tree types) (map value_tree all) (Some n)
      (place_end (map type_tree types) (map value_tree all) n (rw (left_end type_tree types i past_types, left_end value_tree all i past_all) at left.place))

  pub parts_unequal : length types ≢ length all → IsPlaceIn (values (TupleOf (type_parts (map type_tree types)))) (Tuple (parts (map value_tree all))) None
  parts_unequal unequal =
      tuple_place (map type_tree types) (map value_tree all) None
      (λ n h.
      let long = length-combination (map values (map type_tree types)) n (map value_tree all) h in
      let mapped = length-map (map type_tree types) values in
      let typed = length-map types type_tree in
      let valued = length-map all value_tree in
      unequal (omega arith))
