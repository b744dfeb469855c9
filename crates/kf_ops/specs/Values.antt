-- Believed: what each operator gives at its arguments.
use Rattle.std.specs.Prelude.{ℤ, pos, negsuc, ◌+ℤ◌, ◌-ℤ◌, ◌*ℤ◌, ◌^◌, neg_ℤ, int_lt, int_le, nat_lt, unsigned_abs, Bool, false, not, ◌&&◌, ◌||◌, if◌then◌else◌, List, [], ◌∷◌, length, Result, Ok, Err}
use Rattle.std.specs.Int.{int_div_euclid, int_rem_euclid, int_min, int_max}
use Rattle.std.specs.List.{filter, list_all, list_any}
use Rattle.std.specs.Ordering.{int_eq, match_ordering}
use Rattle.kf_value.specs.Values.{ValueTree, Truth, Whole, Set, parts, order, truth, whole, elements, is_equal}
use Rattle.kf_ops.specs.declared.row.Op.{Op}
use Rattle.kf_ops.specs.declared.row.Op.TheVariants as op
use mathlib.Core.List.{foldr}

-- why an operator has no value: a divisor of 0, or a result that is no i64
pub data Fault : Type 0 where
  DivZero : Fault
  ArithWide : Fault

-- the value is one of the list
abbrev pub is_in : ValueTree → List ValueTree → Bool
is_in v ws = list_any (is_equal v) ws

-- an ascending list and one more value, which stands before the first greater one, unless the list has it
abbrev pub inserted : ValueTree → List ValueTree → List ValueTree
inserted v [] = v ∷ []
inserted v (w ∷ ws) = match_ordering (order v w) (v ∷ w ∷ ws) (w ∷ ws) (w ∷ inserted v ws)

-- the number lies from -2^63 up to 2^63 - 1
abbrev pub is_i64 : ℤ → Bool
is_i64 (pos n) = nat_lt n (2 ^ 63)
is_i64 (negsuc n) = nat_lt n (2 ^ 63)

-- a number as the result, if it is an i64
abbrev pub narrow : ℤ → Result ValueTree Fault
narrow z = if is_i64 z then Ok (Whole z) else Err ArithWide

-- a result that needs a divisor other than 0
abbrev pub divided_by : ℤ → Result ValueTree Fault → Result ValueTree Fault
divided_by d result = if int_eq d (pos 0) then Err DivZero else result

-- the value of each operator at its arguments, or its fault; a row of fewer than three leaves the others aside
abbrev pub row_value : Op → ValueTree → ValueTree → ValueTree → Result ValueTree Fault
row_value op.Or a b c = Ok (Truth (truth a || truth b))
row_value op.And a b c = Ok (Truth (truth a && truth b))
row_value op.Not a b c = Ok (Truth (not (truth a)))
row_value op.Equal a b c = Ok (Truth (is_equal a b))
row_value op.NotEqual a b c = Ok (Truth (not (is_equal a b)))
row_value op.Less a b c = Ok (Truth (int_lt (whole a) (whole b)))
row_value op.AtMost a b c = Ok (Truth (int_le (whole a) (whole b)))
row_value op.Greater a b c = Ok (Truth (int_lt (whole b) (whole a)))
row_value op.AtLeast a b c = Ok (Truth (int_le (whole b) (whole a)))
row_value op.Elem a b c = Ok (Truth (is_in a (elements b)))
row_value op.Add a b c = narrow (whole a +ℤ whole b)
row_value op.Subtract a b c = narrow (whole a -ℤ whole b)
row_value op.Union a b c = Ok (Set (parts (foldr inserted (elements b) (elements a))))
row_value op.Without a b c = Ok (Set (parts (filter (λ v. not (is_in v (elements b))) (elements a))))
row_value op.Multiply a b c = narrow (whole a *ℤ whole b)
row_value op.Div a b c = divided_by (whole b) (narrow (int_div_euclid (whole a) (whole b)))
row_value op.Mod a b c = divided_by (whole b) (Ok (Whole (int_rem_euclid (whole a) (whole b))))
row_value op.Inter a b c = Ok (Set (parts (filter (λ v. is_in v (elements b)) (elements a))))
row_value op.Negate a b c = narrow (neg_ℤ (whole a))
row_value op.Size a b c = Ok (Whole (pos (length (elements a))))
row_value op.Cond a b c = Ok (if truth a then b else c)
row_value op.Xor a b c = Ok (Truth (if truth a then not (truth b) else truth b))
row_value op.Implies a b c = Ok (Truth (truth b || not (truth a)))
row_value op.Subset a b c = Ok (Truth (list_all (λ v. is_in v (elements b)) (elements a)))
row_value op.Min a b c = Ok (Whole (int_min (whole a) (whole b)))
row_value op.Max a b c = Ok (Whole (int_max (whole a) (whole b)))
row_value op.Abs a b c = narrow (pos (unsigned_abs (whole a)))

-- the same of arguments in a list, where the first stands for those that a row leaves aside; no row takes none
abbrev pub applied : Op → List ValueTree → Result ValueTree Fault
applied code [] = Ok (Truth false)
applied code (a ∷ []) = row_value code a a a
applied code (a ∷ b ∷ []) = row_value code a b a
applied code (a ∷ b ∷ c ∷ others) = row_value code a b c
