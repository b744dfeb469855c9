-- Numbers as they are written are numbers of certificates, and say what was written.
use Rattle.std.proofs.Common.{◌≡◌, ℕ, suc, Option, ◌+◌, ◌%◌, ◌^◌, ◌<◌, ◌≤◌, ◌==◌, List, [], ◌∷◌, ◌++◌, length, get_or, slice_index, Bool, true, false, not, ◌&&◌, ◌||◌, None, Some, bytes_eq, refl, sym, ap, ap₂, ◌∙◌, arith, append-nil, ne_eqb, if◌then◌else◌, inl, inr}
use Rattle.std.proofs.Math.IntN.{ℤ, pos, negsuc, neg_ℤ}
use Rattle.std.specs.Prelude.{decimal, unsigned_abs}
use Rattle.std.specs.Fmt.{signed_decimal}
use Rattle.std.specs.Char.{is_ascii_digit}
use Rattle.std.specs.List.{list_all}
use Rattle.std.specs.Str.Parse.{AllDigits, digits_value}
use Rattle.std.proofs.lemmas.Bool.{le-leb, cases_eq}
use Rattle.std.proofs.lemmas.Fmt.{decimal_is_IsNumeral_wide, decimal_by_steps_wide, decimal_digit}
use Rattle.std.proofs.lemmas.List.{length-append}
use lib.ListN.{get_or-append}
use Rattle.std.proofs.lemmas.Slice.Eq.{bytes_eq-Decides}
use Rattle.std.proofs.lemmas.Str.Parse.{digit_from_value}
use Rattle.kf_frac.specs.Fractions.{reduced_num, reduced_den, fraction_text}
use Rattle.kf_frac.specs.Parts.{denominator_text}
use Rattle.kf_refine.specs.Refinements.{Fraction}
use Rattle.kf_cert.specs.Numbers.{is_numeral, is_negative, past_sign, before_bar, behind_bar, is_fraction_text, whole_said, numerator_said, denominator_said, fraction_said}
use Rattle.kf_cert.specs.Views.{IsLowest}
use Rattle.kf_cert.specs.Forms.{is_whole_text, is_denominator}

-- ---- digits

is_digit : (b : ℕ) → 48 ≤ b → b ≤ 57 → is_ascii_digit b ≡ true
is_digit b low high = rw (le-leb 48 b low, le-leb b 57 high)

all_digits : (ds : List ℕ) → AllDigits 10 ds → list_all is_ascii_digit ds ≡ true
all_digits [] d = refl
all_digits (b ∷ ds) d =
    let p = digit_from_value b d.0 in
    ap₂ (λ (x y : Bool). x && y) (is_digit b p.0 p.1) (all_digits ds d.1)

-- a digit is neither a sign nor a bar
no_byte : (b c : ℕ) → 48 ≤ b → c < 48 → (b == c) ≡ false
no_byte b c low below = ne_eqb b c (λ (e : b ≡ c). omega arith)

-- the first digit isn't 0, or it is the only one
abbrev HasGoodStart : ℕ → List ℕ → Type 0
HasGoodStart n ds = (0 < length ds) × (0 < n → 48 < get_or ds 0 0)

good_start : (n : ℕ) → n < 10 ^ 64 → HasGoodStart n (decimal n)
good_start = decimal_by_steps_wide HasGoodStart (λ m l. (omega arith, λ a. omega arith))
    (λ m ds l h. (omega (arith, length-append ds ((48 + m % 10) ∷ [])), λ a. omega (arith, get_or-append ds ((48 + m % 10) ∷ []) 0 0 h.0, h.1 (omega arith))))

lone_or_not : (n : ℕ) → n < 10 ^ 64 → ((length (decimal n) == 1) || not (slice_index (decimal n) 0 == 48)) ≡ true
lone_or_not n small = elim (cases_eq n 0) [
  | inl none ↦ rw none (ap (λ (ds : List ℕ). (length ds == 1) || not (slice_index ds 0 == 48)) (decimal_digit 0 (omega arith)))
  | inr some ↦
      let first : (slice_index (decimal n) 0 == 48) ≡ false = ne_eqb _ 48 (λ (e : get_or (decimal n) 0 0 ≡ 48). omega (arith, (good_start n small).1 (omega arith))) in
      rw first (or_true (length (decimal n) == 1))
]
  where
    or_true : (b : Bool) → (b || true) ≡ true
    or_true true = refl
    or_true false = refl

pub numeral : (n : ℕ) → n < 10 ^ 64 → is_numeral (decimal n) ≡ true
numeral n small =
    let k = (decimal_is_IsNumeral_wide n small).0 in
    rw (le-leb 1 (length (decimal n)) k.0, all_digits (decimal n) k.1, lone_or_not n small)

-- ---- what stands around digits

module _ (rest : List ℕ) where
  pub positive : (ds : List ℕ) → AllDigits 10 ds → 0 < length ds → is_negative (ds ++ rest) ≡ false
  positive [] d some = absurd (omega arith)
  positive (b ∷ ds) d some = no_byte b 45 (digit_from_value b d.0).0 (omega arith)

  pub no_sign : (ds : List ℕ) → AllDigits 10 ds → 0 < length ds → past_sign (ds ++ rest) ≡ ds ++ rest
  no_sign [] d some = absurd (omega arith)
  no_sign (b ∷ ds) d some = rw (no_byte b 45 (digit_from_value b d.0).0 (omega arith))

  pub before : (ds : List ℕ) → AllDigits 10 ds → before_bar (ds ++ rest) ≡ ds ++ before_bar rest
  before [] d = refl
  before (b ∷ ds) d = rw (no_byte b 47 (digit_from_value b d.0).0 (omega arith)) (ap (λ (t : List ℕ). b ∷ t) (before ds d.1))

  pub behind : (ds : List ℕ) → AllDigits 10 ds → behind_bar (ds ++ rest) ≡ behind_bar rest
  behind [] d = refl
  behind (b ∷ ds) d = rw (no_byte b 47 (digit_from_value b d.0).0 (omega arith)) (behind ds d.1)

-- ---- whole numbers

module _ (n : ℕ) (small : n < 10 ^ 64) where
  digits_are : AllDigits 10 (decimal n)
  digits_are = (decimal_is_IsNumeral_wide n small).0.1

  some_digit : 0 < length (decimal n)
  some_digit = (decimal_is_IsNumeral_wide n small).0.0

  says : digits_value 10 (decimal n) ≡ n
  says = (decimal_is_IsNumeral_wide n small).1

  module _ (rest : List ℕ) where
    front_positive : is_negative (decimal n ++ rest) ≡ false
    front_positive = positive rest (decimal n) digits_are some_digit

    front_no_sign : past_sign (decimal n ++ rest) ≡ decimal n ++ rest
    front_no_sign = no_sign rest (decimal n) digits_are some_digit

    front_before : before_bar (decimal n ++ rest) ≡ decimal n ++ before_bar rest
    front_before = before rest (decimal n) digits_are

    front_behind : behind_bar (decimal n ++ rest) ≡ behind_bar rest
    front_behind = behind rest (decimal n) digits_are

  alone : (f : List ℕ → List ℕ) → f (decimal n ++ []) ≡ decimal n ++ [] → f (decimal n) ≡ decimal n
  alone f e = ap f (sym (append-nil (decimal n))) ∙ e ∙ append-nil (decimal n)

  alone_no_sign : past_sign (decimal n) ≡ decimal n
  alone_no_sign = alone past_sign (front_no_sign [])

  alone_positive : is_negative (decimal n) ≡ false
  alone_positive = ap is_negative (sym (append-nil (decimal n))) ∙ front_positive []

-- digits have no sign
pub no_minus : (n : ℕ) → n < 10 ^ 64 → is_negative (decimal n) ≡ false
no_minus n small = alone_positive n small

-- whole numbers in absolute value below 10 ^ 64
pub whole_text : (z : ℤ) → unsigned_abs z < 10 ^ 64 → is_whole_text (signed_decimal z) ≡ true
whole_text (pos n) small = ap is_numeral (alone_no_sign n small) ∙ numeral n small
whole_text (negsuc n) small = numeral (suc n) small

pub whole_is : (z : ℤ) → unsigned_abs z < 10 ^ 64 → whole_said (signed_decimal z) ≡ z
whole_is (pos n) small =
    ap₂ (λ (b : Bool) (ds : List ℕ). if b then neg_ℤ (pos (digits_value 10 ds)) else pos (digits_value 10 ds)) (alone_positive n small) (alone_no_sign n small)
    ∙ ap pos (says n small)
whole_is (negsuc n) small = ap (λ (m : ℕ). neg_ℤ (pos m)) (says (suc n) small)

-- ---- fractions

-- the text of a numerator, and what stands behind it
abbrev with_rest : ℤ → List ℕ → List ℕ
with_rest z rest = signed_decimal z ++ rest

numerator_digits : (z : ℤ) (rest : List ℕ) → before_bar rest ≡ [] → unsigned_abs z < 10 ^ 64 → before_bar (past_sign (with_rest z rest)) ≡ decimal (unsigned_abs z)
numerator_digits (pos n) rest none small =
    ap before_bar (front_no_sign n small rest) ∙ front_before n small rest ∙ ap (λ (t : List ℕ). decimal n ++ t) none ∙ append-nil (decimal n)
numerator_digits (negsuc n) rest none small = front_before (suc n) small rest ∙ ap (λ (t : List ℕ). decimal (suc n) ++ t) none ∙ append-nil (decimal (suc n))

numerator_is : (z : ℤ) (rest : List ℕ) → before_bar rest ≡ [] → unsigned_abs z < 10 ^ 64 → numerator_said (with_rest z rest) ≡ z
numerator_is (pos n) rest none small =
    ap₂ (λ (b : Bool) (ds : List ℕ). if b then neg_ℤ (pos (digits_value 10 ds)) else pos (digits_value 10 ds)) (front_positive n small rest) (numerator_digits (pos n) rest none small)
    ∙ ap pos (says n small)
numerator_is (negsuc n) rest none small = ap (λ (ds : List ℕ). neg_ℤ (pos (digits_value 10 ds))) (numerator_digits (negsuc n) rest none small) ∙ ap (λ (m : ℕ). neg_ℤ (pos m)) (says (suc n) small)

bar_behind : (z : ℤ) (rest : List ℕ) → unsigned_abs z < 10 ^ 64 → behind_bar (with_rest z rest) ≡ behind_bar rest
bar_behind (pos n) rest small = front_behind n small rest
bar_behind (negsuc n) rest small = front_behind (suc n) small rest

-- the denominator is left out where it is 1
record IsDenominatorText (d : ℕ) (text : List ℕ) : Type 0 where
  ends : before_bar text ≡ []
  good : (elim (behind_bar text) [ None ↦ true | Some digits ↦ is_denominator digits ]) ≡ true
  is : denominator_said text ≡ d

not_zero : (d : ℕ) → 0 < d → d < 10 ^ 64 → bytes_eq (decimal d) (48 ∷ []) ≡ false
not_zero d some small = tested (bytes_eq (decimal d) (48 ∷ [])) refl
  where
    first : decimal d ≡ 48 ∷ [] → ⊥
    first e = omega (arith, ap (λ (ds : List ℕ). get_or ds 0 0) e, (good_start d small).1 some)

    tested : (b : Bool) → bytes_eq (decimal d) (48 ∷ []) ≡ b → bytes_eq (decimal d) (48 ∷ []) ≡ false
    tested true e = absurd (first ((bytes_eq-Decides (decimal d) (48 ∷ [])).0 e))
    tested false e = e

denominator : (d : ℕ) → 0 < d → d < 10 ^ 64 → IsDenominatorText d (denominator_text d)
denominator d some small = elim (cases_eq d 1) [
  | inl one ↦ rw one (record { ends = refl; good = refl; is = refl })
  | inr more ↦
      rw (ne_eqb d 1 more) (record {
        ends = refl;
        good = rw (numeral d small, not_zero d some small);
        is = says d small;
      })
]

lowest_text : (f : Fraction) → IsLowest f → fraction_text f.num f.den ≡ with_rest f.num (denominator_text f.den)
unfolding fraction_text
lowest_text f low = ap₂ (λ (z : ℤ) (d : ℕ). with_rest z (denominator_text d)) (sym low.num) (sym low.den)

module _ (f : Fraction) (low : IsLowest f) where
  num_small : unsigned_abs f.num < 10 ^ 64
  num_small = omega (arith, low.narrow_num)

  den_small : f.den < 10 ^ 64
  den_small = omega (arith, low.narrow_den)

  below : IsDenominatorText f.den (denominator_text f.den)
  below = denominator f.den low.positive den_small

  pub numerator_read : numerator_said (fraction_text f.num f.den) ≡ f.num
  numerator_read = ap numerator_said (lowest_text f low) ∙ numerator_is f.num (denominator_text f.den) below.ends num_small

  pub denominator_read : denominator_said (fraction_text f.num f.den) ≡ f.den
  denominator_read =
      ap denominator_said (lowest_text f low)
      ∙ ap (λ (o : Option (List ℕ)). elim o [ None ↦ 1 | Some digits ↦ digits_value 10 digits ]) (bar_behind f.num (denominator_text f.den) num_small)
      ∙ below.is

  pub fraction_is_text : is_fraction_text (fraction_text f.num f.den) ≡ true
  fraction_is_text =
      ap is_fraction_text (lowest_text f low)
      ∙ ap₂ (λ (ds : List ℕ) (o : Option (List ℕ)). is_numeral ds && elim o [ None ↦ true | Some digits ↦ is_denominator digits ])
      (numerator_digits f.num (denominator_text f.den) below.ends num_small) (bar_behind f.num (denominator_text f.den) num_small)
      ∙ ap₂ (λ (x y : Bool). x && y) (numeral (unsigned_abs f.num) num_small) below.good

  pub fraction_read : fraction_said (fraction_text f.num f.den) ≡ f
  fraction_read =
      ap₂ (λ (z : ℤ) (d : ℕ). record { num = reduced_num z d; den = reduced_den z d }) numerator_read denominator_read
      ∙ ap₂ (λ (z : ℤ) (d : ℕ). record { num = z; den = d }) (sym low.num) (sym low.den)
