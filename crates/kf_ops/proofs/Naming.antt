-- Each row names the faults that it can have.
use Rattle.std.proofs.Common.{◌≡◌, ℤ, pos, ◌+ℤ◌, ◌-ℤ◌, ◌*ℤ◌, neg_ℤ, Bool, true, false, List, [], ◌∷◌, refl, Result, Ok, Err}
use Rattle.std.specs.Prelude.{if◌then◌else◌, unsigned_abs}
use Rattle.std.specs.Int.{int_rem_euclid}
use Rattle.std.specs.Ordering.{int_eq}
use Rattle.std.specs.List.{AllByRecursion as Each}
use Rattle.kf_value.specs.Values.{ValueTree, Truth, Whole, whole}
use Rattle.kf_ops.specs.Rows.{Row, operators}
use Rattle.kf_ops.specs.Laws.{NamesFaults}
use Rattle.kf_ops.specs.Values.{applied, row_value, is_i64, Fault, DivZero, ArithWide}
use Rattle.kf_ops.specs.declared.row.Op.{Op}
use Rattle.kf_ops.specs.declared.row.Op.TheVariants as op
use Rattle.kf_ops.proofs.EachRow.{each_row, row_at}

-- the result is another than this fault
abbrev Lacks : Fault → Result ValueTree Fault → Type 0
Lacks f r = r ≡ Err f → ⊥

abbrev NeverGives : Fault → Op → Type 0
NeverGives f code = (a b c : ValueTree) → Lacks f (row_value code a b c)

value_lacks : (f : Fault) (v : ValueTree) → Lacks f (Ok v)
value_lacks f v h = (cc)

lacks_applied : (f : Fault) (code : Op) → NeverGives f code → (args : List ValueTree) → Lacks f (applied code args)
lacks_applied f code never [] = value_lacks f (Truth false)
lacks_applied f code never (a ∷ []) = never a a a
lacks_applied f code never (a ∷ b ∷ []) = never a b a
lacks_applied f code never (a ∷ b ∷ c ∷ others) = never a b c

wide_alone : (b : Bool) (z : ℤ) → Lacks DivZero (if b then Ok (Whole z) else Err ArithWide)
wide_alone true z h = (cc)
wide_alone false z h = (cc)

zero_alone : (b : Bool) (z : ℤ) → Lacks ArithWide (if b then Err DivZero else Ok (Whole z))
zero_alone true z h = (cc)
zero_alone false z h = (cc)

-- a row whose operator never has a fault
neither : (row : Row) → ((f : Fault) → NeverGives f row.code) → NamesFaults row
neither row never = record {
  by_zero = λ args h. absurd (lacks_applied DivZero row.code (never DivZero) args h);
  too_wide = λ args h. absurd (lacks_applied ArithWide row.code (never ArithWide) args h);
}

wide_row : (row : Row) → row.wide ≡ true → NeverGives DivZero row.code → NamesFaults row
wide_row row wide never = record {
  by_zero = λ args h. absurd (lacks_applied DivZero row.code never args h);
  too_wide = λ args h. wide;
}

zero_row : (row : Row) → row.div_zero ≡ true → NeverGives ArithWide row.code → NamesFaults row
zero_row row zero never = record {
  by_zero = λ args h. zero;
  too_wide = λ args h. absurd (lacks_applied ArithWide row.code never args h);
}

both_row : (row : Row) → row.div_zero ≡ true → row.wide ≡ true → NamesFaults row
both_row row zero wide = record { by_zero = λ args h. zero; too_wide = λ args h. wide }

-- those with no line of their own never have a fault
names : (code : Op) → NamesFaults (row_at code)
names op.Add = wide_row _ refl (λ a b c. wide_alone (is_i64 (whole a +ℤ whole b)) (whole a +ℤ whole b))
names op.Subtract = wide_row _ refl (λ a b c. wide_alone (is_i64 (whole a -ℤ whole b)) (whole a -ℤ whole b))
names op.Multiply = wide_row _ refl (λ a b c. wide_alone (is_i64 (whole a *ℤ whole b)) (whole a *ℤ whole b))
names op.Div = both_row _ refl refl
names op.Mod = zero_row _ refl (λ a b c. zero_alone (int_eq (whole b) (pos 0)) (int_rem_euclid (whole a) (whole b)))
names op.Negate = wide_row _ refl (λ a b c. wide_alone (is_i64 (neg_ℤ (whole a))) (neg_ℤ (whole a)))
names op.Abs = wide_row _ refl (λ a b c. wide_alone (is_i64 (pos (unsigned_abs (whole a)))) (pos (unsigned_abs (whole a))))
names _ = neither _ (λ f a b c. value_lacks f _)

pub name_faults : Each NamesFaults operators
name_faults = each_row NamesFaults names
