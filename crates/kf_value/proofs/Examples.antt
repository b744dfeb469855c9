-- The definitions on small cases.
use Rattle.std.proofs.Common.{◌≡◌, ℕ, pos, negsuc, true, false, List, [], ◌∷◌, map, refl, codes, Some, Ok, Err, slice_get}
use Rattle.std.specs.declared.cmp.Ordering.TheVariants.{Less, Greater}
use Rattle.kf_value.specs.declared.ty.TyFault.TheVariants.{BadRange, TooManyValues}
use Rattle.kf_value.specs.Values.{ValueTree, Truth, Whole, Tuple, Set, parts, order}
use Rattle.kf_value.specs.Types.{TypeTree, Boolean, Range, TupleOf, SetOf, type_parts, values, count}
use Rattle.kf_value.specs.Sizes.{size_of}
use Rattle.kf_value.specs.Stores.{stores}
use Rattle.kf_value.specs.Numbers.{digits, mixed_radix}
use Rattle.kf_value.specs.Targets.{Item, target_value_text}
use Rattle.std.specs.Fmt.{digits as decimal_digits}

abbrev upto : ℕ → TypeTree
upto h = Range (pos 0) (pos h)

abbrev digit_sets : List ValueTree
digit_sets = map (λ vs. Set (parts vs)) ([] ∷ (Whole (pos 0) ∷ []) ∷ (Whole (pos 1) ∷ []) ∷ (Whole (pos 0) ∷ Whole (pos 1) ∷ []) ∷ (Whole (pos 2) ∷ []) ∷ (Whole (pos 0) ∷ Whole (pos 2) ∷ []) ∷ (Whole (pos 1) ∷ Whole (pos 2) ∷ []) ∷ (Whole (pos 0) ∷ Whole (pos 1) ∷ Whole (pos 2) ∷ []) ∷ [])

sets : values (SetOf (upto 2)) ≡ digit_sets
unfolding values
sets = refl

abbrev pair : TypeTree
pair = TupleOf (type_parts (Boolean ∷ Range (negsuc 0) (pos 1) ∷ []))

third : slice_get (values pair) 3 ≡ Some (Tuple (parts (Truth true ∷ Whole (negsuc 0) ∷ [])))
unfolding values
third = refl

sizes : count (SetOf (upto 2)) ≡ 8
sizes = refl

base_too_large : size_of (SetOf (upto 16)) ≡ Err TooManyValues
base_too_large = refl

base_just_fits : size_of (SetOf (upto 15)) ≡ Ok 65536
base_just_fits = refl

bad_before_large : size_of (SetOf (Range (pos 0) (pos 2000000))) ≡ Err BadRange
bad_before_large = refl

first_is_large : size_of (TupleOf (type_parts (SetOf (upto 16) ∷ Range (pos 3) (pos 0) ∷ []))) ≡ Err TooManyValues
first_is_large = refl

nested : size_of (SetOf (SetOf (SetOf Boolean))) ≡ Ok 65536
nested = refl

too_nested : size_of (SetOf (SetOf (SetOf (SetOf Boolean)))) ≡ Err TooManyValues
too_nested = refl

greatest_decides : order (Set (parts (Whole (pos 2) ∷ []))) (Set (parts (Whole (pos 0) ∷ Whole (pos 1) ∷ []))) ≡ Greater
greatest_decides = refl

prefix_before : order (Tuple (parts (Whole (pos 2) ∷ []))) (Tuple (parts (Whole (pos 2) ∷ Whole (pos 0) ∷ []))) ≡ Less
prefix_before = refl

store : slice_get (stores (upto 3 ∷ upto 2 ∷ [])) 7 ≡ Some (Whole (pos 2) ∷ Whole (pos 1) ∷ [])
unfolding stores values
store = refl

store_digits : digits (4 ∷ 3 ∷ []) 7 ≡ 2 ∷ 1 ∷ []
store_digits = refl

store_radix : mixed_radix (4 ∷ 3 ∷ []) (2 ∷ 2 ∷ []) ≡ 8
store_radix = refl

abbrev items : List Item
items = record { initial = false; name = codes "s"; ty = SetOf (upto 2) } ∷ record { initial = false; name = codes "p"; ty = pair } ∷ []

both : target_value_text items 21 ≡ codes "({0, 1}, (true, -1))"
unfolding target_value_text stores values decimal_digits
both = refl

empty_first : target_value_text items 0 ≡ codes "({}, (false, -1))"
unfolding target_value_text stores values decimal_digits
empty_first = refl
